-- Rows of advances, one place after the other.
use Rattle.std.proofs.Common.{◌≡◌, ℕ, zero, suc, ◌+◌, ◌<◌, List, [], ◌∷◌, length, get_or, set, arith, ap, sym, ◌∙◌, refl}
use Rattle.rv_layout.specs.declared.advance.Advance.{Advance}
use Rattle.rv_layout.specs.Advances.{then_advance, IsAdvance}
use Rattle.rv_layout.specs.Effects.{advance_at, both, AreAdvances}

pub advance_in_row : (xs : List Advance) (i : ℕ) (d : Advance) → i < length xs → AreAdvances xs → IsAdvance (get_or xs i d)
advance_in_row [] i d l o = absurd (let no : i < 0 = l in omega (arith, no))
advance_in_row (x ∷ xs) zero d l o = o.0
advance_in_row (x ∷ xs) (suc i) d l o = advance_in_row xs i d (omega (arith, l)) o.1

pub set-advance_at : (xs : List Advance) (i : ℕ) (k d : Advance) → i < length xs → set xs i (then_advance (get_or xs i d) k) ≡ advance_at i k xs
set-advance_at [] i k d l = refl
set-advance_at (x ∷ xs) zero k d l = refl
set-advance_at (x ∷ xs) (suc i) k d l = ap (λ ys. x ∷ ys) (set-advance_at xs i k d (omega (arith, l)))

-- the first i places joined
abbrev pub both_to : ℕ → List Advance → List Advance → List Advance
both_to i [] ys = []
both_to i (x ∷ xs) [] = x ∷ xs
both_to zero (x ∷ xs) (y ∷ ys) = x ∷ xs
both_to (suc i) (x ∷ xs) (y ∷ ys) = then_advance x y ∷ both_to i xs ys

pub both_to-zero : (xs ys : List Advance) → both_to 0 xs ys ≡ xs
both_to-zero [] ys = refl
both_to-zero (x ∷ xs) [] = refl
both_to-zero (x ∷ xs) (y ∷ ys) = refl

both_to-suc : (i : ℕ) (xs ys : List Advance) (d : Advance) → length xs ≡ length ys → set (both_to i xs ys) i (then_advance (get_or xs i d) (get_or ys i d)) ≡ both_to (suc i) xs ys
both_to-suc i [] ys d e = refl
both_to-suc i (x ∷ xs) [] d e = absurd (omega (arith, e))
both_to-suc zero (x ∷ xs) (y ∷ ys) d e = ap (λ zs. then_advance x y ∷ zs) (sym (both_to-zero xs ys))
both_to-suc (suc i) (x ∷ xs) (y ∷ ys) d e = ap (λ zs. then_advance x y ∷ zs) (both_to-suc i xs ys d (omega (arith, e)))

pub both_to-more : (i : ℕ) (xs ys : List Advance) (d : Advance) → length xs ≡ length ys → set (both_to i xs ys) i (then_advance (get_or xs i d) (get_or ys i d)) ≡ both_to (i + 1) xs ys
both_to-more i xs ys d e = both_to-suc i xs ys d e ∙ ap (λ n. both_to n xs ys) (let f : suc i ≡ i + 1 = omega arith in f)

pub both_to-all : (i : ℕ) (xs ys : List Advance) → length xs ≡ i → length ys ≡ i → both_to i xs ys ≡ both xs ys
both_to-all i [] ys e f = refl
both_to-all i (x ∷ xs) [] e f = absurd (omega (arith, e, f))
both_to-all zero (x ∷ xs) (y ∷ ys) e f = absurd (omega (arith, e))
both_to-all (suc i) (x ∷ xs) (y ∷ ys) e f = ap (λ zs. then_advance x y ∷ zs) (both_to-all i xs ys (omega (arith, e)) (omega (arith, f)))
