-- Lists whose items have the same sums, one by one.
use Rattle.std.proofs.Common.{◌≡◌, ℕ, zero, suc, List, [], ◌∷◌, map, Some, refl, ap, ap₂}
use Rattle.std.specs.Prelude.{slice_get, slice_set}
use Rattle.rv_tree.specs.Sums.{total, AllSums}

module _ {S T : Type 0} (sum_of : T → S) where
  -- they add up to the same
  pub total-same : (empty : S) (op : S → S → S) (xs ys : List T) → map sum_of ys ≡ map sum_of xs → total empty op sum_of ys ≡ total empty op sum_of xs
  total-same empty op [] [] e = refl
  total-same empty op [] (y ∷ ys) e = absurd (cc e)
  total-same empty op (x ∷ xs) [] e = absurd (cc e)
  total-same empty op (x ∷ xs) (y ∷ ys) e =
      let first : sum_of y ≡ sum_of x = cc e in
      let rest : map sum_of ys ≡ map sum_of xs = cc e in
      ap₂ op first (total-same empty op xs ys rest)

  pub all_sums-same : (is_value : S → Type 0) (xs ys : List T) → map sum_of ys ≡ map sum_of xs → AllSums is_value sum_of xs → AllSums is_value sum_of ys
  all_sums-same is_value [] [] e a = tt
  all_sums-same is_value [] (y ∷ ys) e a = absurd (cc e)
  all_sums-same is_value (x ∷ xs) [] e a = absurd (cc e)
  all_sums-same is_value (x ∷ xs) (y ∷ ys) e a =
      let first : sum_of y ≡ sum_of x = cc e in
      let rest : map sum_of ys ≡ map sum_of xs = cc e in
      (rw first a.0, all_sums-same is_value xs ys rest a.1)

  -- an item of the sum of the one whose place it takes
  pub same-set : (xs : List T) (i : ℕ) (x y : T) → slice_get xs i ≡ Some x → sum_of y ≡ sum_of x → map sum_of (slice_set xs i y) ≡ map sum_of xs
  same-set [] i x y at e = refl
  same-set (z ∷ zs) zero x y at e = let same : z ≡ x = cc at in ap (λ s. s ∷ map sum_of zs) (rw same e)
  same-set (z ∷ zs) (suc i) x y at e = ap (λ ss. sum_of z ∷ ss) (same-set zs i x y at e)
