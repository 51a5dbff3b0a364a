-- Edits of a column of lines, and the edits that take them back.
use Rattle.std.proofs.Common.{◌≡◌, ℕ, zero, suc, ◌<◌, ◌≤◌, List, [], ◌∷◌, length, set, get_or, arith, ap, ◌∙◌, refl}
use Rattle.std.specs.Prelude.{insert, remove}
use Rattle.std.proofs.lemmas.List.{set-get_or, set-set}

-- what was put in is taken out
pub removed-inserted : {A : Type 0} (xs : List A) (i : ℕ) (x : A) → i ≤ length xs → remove (insert xs i x) i ≡ xs
removed-inserted xs zero x within = refl
removed-inserted [] (suc i) x within = absurd (let no : suc i ≤ 0 = within in omega (arith, no))
removed-inserted (y ∷ xs) (suc i) x within = ap (λ ys. y ∷ ys) (removed-inserted xs i x (let w : suc i ≤ suc (length xs) = within in omega (arith, w)))

-- what was taken out is put in
pub inserted-removed : {A : Type 0} (xs : List A) (i : ℕ) (x : A) → i < length xs → x ≡ get_or xs i x → insert (remove xs i) i x ≡ xs
inserted-removed [] i x within is = absurd (let no : i < 0 = within in omega (arith, no))
inserted-removed (y ∷ xs) zero x within is = ap (λ z. z ∷ xs) is
inserted-removed (y ∷ xs) (suc i) x within is = ap (λ ys. y ∷ ys) (inserted-removed xs i x (let w : suc i < suc (length xs) = within in omega (arith, w)) is)

-- what is there already
pub set-same : {A : Type 0} (xs : List A) (i : ℕ) (a : A) → a ≡ get_or xs i a → set xs i a ≡ xs
set-same xs i a there = ap (set xs i) there ∙ set-get_or xs i a

-- what was there is put back
pub set-back : {A : Type 0} (xs : List A) (i : ℕ) (a b : A) → b ≡ get_or xs i b → set (set xs i a) i b ≡ xs
set-back xs i a b there = set-set xs i a b ∙ set-same xs i b there
