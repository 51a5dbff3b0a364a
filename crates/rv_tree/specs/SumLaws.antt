-- What the laws of a join give for the sums of lists.
use Rattle.std.proofs.Common.{◌≡◌, List, [], ◌∷◌, ◌++◌, sym, ap, ◌∙◌}
use Rattle.rv_tree.specs.Sums.{JoinLaws, total, AllSums}

module _ {S T : Type 0} (is_value : S → Type 0) (sum_of : T → S) where
  -- of a list in two parts: all sums are values exactly if those of both parts are
  pub all_sums-append : (xs ys : List T) → AllSums is_value sum_of xs → AllSums is_value sum_of ys → AllSums is_value sum_of (xs ++ ys)
  all_sums-append [] ys a b = b
  all_sums-append (x ∷ xs) ys a b = (a.0, all_sums-append xs ys a.1 b)

  pub all_sums-left : (xs ys : List T) → AllSums is_value sum_of (xs ++ ys) → AllSums is_value sum_of xs
  all_sums-left [] ys a = tt
  all_sums-left (x ∷ xs) ys a = (a.0, all_sums-left xs ys a.1)

  pub all_sums-right : (xs ys : List T) → AllSums is_value sum_of (xs ++ ys) → AllSums is_value sum_of ys
  all_sums-right [] ys a = a
  all_sums-right (x ∷ xs) ys a = all_sums-right xs ys a.1

module _ {S T : Type 0} {is_value : S → Type 0} {empty : S} {op : S → S → S} (laws : JoinLaws is_value empty op) (sum_of : T → S) where
  -- a sum of values is a value
  pub total_is_value : (xs : List T) → AllSums is_value sum_of xs → is_value (total empty op sum_of xs)
  total_is_value [] a = laws.empty_is_value
  total_is_value (x ∷ xs) a = laws.op_is_value _ _ a.0 (total_is_value xs a.1)

  -- the sum of a list in two parts is the join of their sums
  pub total-append : (xs ys : List T) → AllSums is_value sum_of xs → AllSums is_value sum_of ys → total empty op sum_of (xs ++ ys) ≡ op (total empty op sum_of xs) (total empty op sum_of ys)
  total-append [] ys a b = sym (laws.left_unit (total empty op sum_of ys) (total_is_value ys b))
  total-append (x ∷ xs) ys a b = ap (op (sum_of x)) (total-append xs ys a.1 b) ∙ sym (laws.associative (sum_of x) (total empty op sum_of xs) (total empty op sum_of ys) a.0 (total_is_value xs a.1) (total_is_value ys b))

  -- one item more at the end
  pub total-push : (xs : List T) (y : T) → AllSums is_value sum_of xs → is_value (sum_of y) → total empty op sum_of (xs ++ y ∷ []) ≡ op (total empty op sum_of xs) (sum_of y)
  total-push xs y a b = total-append xs (y ∷ []) a (b, tt) ∙ ap (op (total empty op sum_of xs)) (laws.right_unit (sum_of y) b)
