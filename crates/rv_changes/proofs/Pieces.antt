-- Lists in which other items stand in the place of some, item by item.
use Rattle.std.proofs.Common.{◌≡◌, ℕ, zero, suc, ◌+◌, ◌-◌, ◌<◌, ◌≤◌, Bool, true, false, List, [], ◌∷◌, ◌++◌, length, take, drop, refl, ap, sym, ◌∙◌, arith, add-one, add-zero, subst, true≢false, Option, Some, None, slice_get}
use Rattle.std.proofs.lemmas.Bool.Decides.{nat_tests}
use Rattle.std.specs.Prelude.{insert, remove, set, ◌==◌, if◌then◌else◌}
use Rattle.std.proofs.lemmas.List.{drop-drop}
use Rattle.rv_doc.specs.Edits.{spliced}

-- One item after another

removed : {A : Type 0} (xs : List A) (first n : ℕ) → first < length xs → take first (remove xs first) ++ drop n (drop first (remove xs first)) ≡ take first xs ++ drop (suc n) (drop first xs)
removed [] first n lt = absurd (omega arith)
removed (x ∷ xs) zero n lt = refl
removed (x ∷ xs) (suc first) n lt = ap (λ l. x ∷ l) (removed xs first n (omega arith))

-- one less
pub spliced_removed : {A : Type 0} (xs : List A) (first n : ℕ) → first < length xs → spliced (remove xs first) first n [] ≡ spliced xs first (suc n) []
spliced_removed xs first n lt = rw (sym (drop-drop n first (remove xs first)), sym (drop-drop (suc n) first xs)) (removed xs first n lt)

inserted : {A : Type 0} (xs : List A) (at : ℕ) (x : A) (new : List A) → at ≤ length xs → take (suc at) (insert xs at x) ++ (new ++ drop (suc at) (insert xs at x)) ≡ take at xs ++ (x ∷ (new ++ drop at xs))
inserted xs zero x new le = refl
inserted [] (suc at) x new le = absurd (omega arith)
inserted (y ∷ xs) (suc at) x new le = ap (λ l. y ∷ l) (inserted xs at x new (omega arith))

-- one more
pub put_insert : {A : Type 0} (old now : List A) (at left : ℕ) (x : A) (later : List A) → now ≡ insert old at x → at ≤ length old → left ≡ 0 → spliced now (at + 1) (left - 1) later ≡ spliced old at left (x ∷ later)
put_insert old now at left x later e le none = rw (none, e, add-one at, add-zero (suc at), add-zero at) (inserted old at x later le)

was_set : {A : Type 0} (xs : List A) (at n : ℕ) (x : A) (new : List A) → at < length xs → take (suc at) (set xs at x) ++ (new ++ drop n (drop (suc at) (set xs at x))) ≡ take at xs ++ (x ∷ (new ++ drop n (drop (suc at) xs)))
was_set [] at n x new lt = absurd (omega arith)
was_set (y ∷ xs) zero n x new lt = refl
was_set (y ∷ xs) (suc at) n x new lt = ap (λ l. y ∷ l) (was_set xs at n x new (omega arith))

spliced_set : {A : Type 0} (xs : List A) (at n : ℕ) (x : A) (new : List A) → at < length xs → spliced (set xs at x) (at + 1) n new ≡ spliced xs at (suc n) (x ∷ new)
spliced_set xs at n x new lt = let e : at + suc n ≡ suc at + n = omega arith in rw (add-one at, e, sym (drop-drop n (suc at) (set xs at x)), sym (drop-drop n (suc at) xs)) (was_set xs at n x new lt)

-- one in the place of another
pub put_set : {A : Type 0} (old now : List A) (at left : ℕ) (x : A) (later : List A) → now ≡ set old at x → at < length old → 0 < left → spliced now (at + 1) (left - 1) later ≡ spliced old at left (x ∷ later)
put_set old now at left x later e lt some = let more : left ≡ suc (left - 1) = omega arith in ap (λ l. spliced l (at + 1) (left - 1) later) e ∙ spliced_set old at (left - 1) x later lt ∙ ap (λ n. spliced old at n (x ∷ later)) (sym more)

-- the one that stands there
pub set_same : {A : Type 0} (xs : List A) (at : ℕ) (x : A) → Some x ≡ slice_get xs at → set xs at x ≡ xs
set_same [] at x e = refl
set_same (y ∷ xs) zero x e = let is : Some x ≡ Some y = e in ap (λ z. z ∷ xs) (cc)
set_same (y ∷ xs) (suc at) x e = ap (λ l. y ∷ l) (set_same xs at x e)

-- All at once

found_else : {A : Type 0} (b : Bool) (x : A) (found : Option A) → b ≡ false → Some x ≡ (if b then None else found) → Some x ≡ found
found_else true x found is e = absurd (true≢false is)
found_else false x found is e = e

-- the line of a number
pub at_number : (lines : List (List ℕ)) (place number : ℕ) (line : List ℕ) → number ≡ place + 1 → Some line ≡ (if number == 0 then None else slice_get lines (number - 1)) → Some line ≡ slice_get lines place
at_number lines place number line is e =
    let some : (number == 0) ≡ false = grind (arith, nat_tests, is) in
    let before : number - 1 ≡ place = omega (arith, is) in
    subst (λ n. Some line ≡ slice_get lines n) before (found_else (number == 0) line (slice_get lines (number - 1)) some e)
