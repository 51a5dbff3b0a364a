-- Where sections begin, and within which bounds.
use Rattle.std.proofs.Common.{◌≡◌, ◌==◌, ◌%◌, ℕ, true, zero, suc, ◌+◌, ◌-◌, ◌*◌, ◌^◌, ◌<◌, ◌≤◌, ◌⊎◌, inl, inr, List, length, slice_index, slice_set, arith, ap, sym, ◌∙◌}
use Rattle.std.specs.Prelude.{nat_le}
use Rattle.std.proofs.lemmas.Bool.{cases_eq, leb-true, and_parts}
use Rattle.std.proofs.lemmas.List.{get_or-set_same, get_or-set_other}
use Rattle.rv_layout.specs.Places.{base_from, is_base, sum_below}
use Rattle.rv_layout.specs.RoundingLaws.{round_up-below}

pub base_from-bound : (base : ℕ) (end : ℕ → ℕ) (t : ℕ) → base_from base end t ≤ base + sum_below end t + 4096 * t
base_from-bound base end zero = omega arith
base_from-bound base end (suc t) =
    omega (arith, base_from-bound base end t, round_up-below (base_from base end t + end t) 4096 (omega arith))

sum_below-more : (f : ℕ → ℕ) (k d : ℕ) → sum_below f k ≤ sum_below f (k + d)
sum_below-more f k zero = let same : k + 0 ≡ k = omega arith in rw same (omega arith)
sum_below-more f k (suc d) =
    let same : k + suc d ≡ suc (k + d) = omega arith in
    rw same (omega (arith, sum_below-more f k d))

pub sum_below-grows : (f : ℕ → ℕ) (k n : ℕ) → k ≤ n → sum_below f k ≤ sum_below f n
sum_below-grows f k n h = let same : n ≡ k + (n - k) = omega arith in rw same (sum_below-more f k (n - k))

pub base-bound : (base : ℕ) → is_base base ≡ true → base ≤ 0x80000000
base-bound base e = leb-true base 0x80000000 (and_parts (base % 4096 == 0) (nat_le base 0x80000000) e).1

-- a section ends within 32 bits
pub base_from-fits : (base : ℕ) (end : ℕ → ℕ) (t n : ℕ) → t < n → n ≤ 16 → base ≤ 0x80000000 → sum_below end n ≤ 2 ^ 30 → base_from base end t + end t ≤ 2 ^ 32 - 4096
base_from-fits base end t n l few b h =
    omega (arith, base_from-bound base end t, sum_below-grows end (suc t) n (omega (arith, l)))

-- one more number of a row
pub row-more : (xs : List ℕ) (f : ℕ → ℕ) (t v : ℕ) → t < length xs → v ≡ f t → ((k : ℕ) → k < t → slice_index xs k ≡ f k) → (k : ℕ) → k < t + 1 → slice_index (slice_set xs t v) k ≡ f k
row-more xs f t v l e h k below = at (cases_eq k t)
  where
    at : (k ≡ t) ⊎ (k ≡ t → ⊥) → slice_index (slice_set xs t v) k ≡ f k
    at (inl same) = ap (slice_index (slice_set xs t v)) same ∙ get_or-set_same xs t v 0 l ∙ e ∙ ap f (sym same)
    at (inr other) =
        let less : k < t = omega (arith, below, other) in
        get_or-set_other xs t k v 0 other ∙ h k less
