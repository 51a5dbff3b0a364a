-- The laws that a join obeys, and what the items of a list add up to.
use Rattle.std.specs.Prelude.{◌≡◌, List, [], ◌∷◌}

-- the laws of an associative join and its unit, over the values that `is_value` tells
pub record JoinLaws {S : Type 0} (is_value : S → Type 0) (empty : S) (op : S → S → S) : Type 0 where
  pub empty_is_value : is_value empty
  pub op_is_value : (x y : S) → is_value x → is_value y → is_value (op x y)
  pub left_unit : (x : S) → is_value x → op empty x ≡ x
  pub right_unit : (x : S) → is_value x → op x empty ≡ x
  pub associative : (x y z : S) → is_value x → is_value y → is_value z → op (op x y) z ≡ op x (op y z)

-- the sum of a list: the sums of its items, joined in their order
abbrev pub total : {S : Type 0} {T : Type 0} → S → (S → S → S) → (T → S) → List T → S
total empty op sum_of [] = empty
total empty op sum_of (x ∷ xs) = op (sum_of x) (total empty op sum_of xs)

-- the sum of each item is a value
abbrev pub AllSums : {S : Type 0} {T : Type 0} → (S → Type 0) → (T → S) → List T → Type 0
AllSums is_value sum_of [] = Unit {0}
AllSums is_value sum_of (x ∷ xs) = is_value (sum_of x) × AllSums is_value sum_of xs
