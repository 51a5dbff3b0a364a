-- What the lines of a part of a text add up to: how many there are, and their mask.
use Rattle.std.proofs.Common.{◌≡◌, ℕ, ◌==◌, ◌+◌, ◌-◌, ◌^◌, ◌<◌, true, arith, ap₂}
use Rattle.std.specs.Prelude.{min}
use Rattle.std.proofs.lemmas.Bool.{eqb-true, eq-eqb}
use Rattle.rv_tree.specs.Sums.{JoinLaws}
use Rattle.rv_program.specs.declared.item.Item.{Item}
use Rattle.rv_program.specs.declared.line_sum.LineSum.{LineSum}
use Rattle.rv_program.specs.declared.mask.Mask.{Mask}
use Rattle.rv_program.specs.internal.Briefs.{mask_on}
use Rattle.rv_program.specs.internal.Masks.{IsMask, no_mask, both_masks, shared}
use Rattle.rv_program.specs.lemmas.MaskLaws.{both-values, both-left, both-right, both-associative, shared-in_parts}

abbrev pub line_sum : ℕ → Mask → LineSum
line_sum count mask = record { count = count; mask = mask }

abbrev pub IsLineSum : LineSum → Type 0
IsLineSum x = (x.count < 2 ^ 32) × IsMask x.mask

abbrev pub no_line_sum : LineSum
no_line_sum = line_sum 0 no_mask

-- the count stops at the greatest number of 32 bits, which stands for so many or more
abbrev pub both_line_sums : LineSum → LineSum → LineSum
both_line_sums x y = line_sum (min (x.count + y.count) (2 ^ 32 - 1)) (both_masks x.mask y.mask)

-- one line
abbrev pub line_sum_of : Item → LineSum
line_sum_of item = line_sum 1 (mask_on item.line)

pub line_sum_laws : JoinLaws IsLineSum no_line_sum both_line_sums
line_sum_laws = record {
  empty_is_value = (omega arith, (omega arith, omega arith, omega arith, omega arith));
  op_is_value = λ x y p q. (omega arith, both-values x.mask y.mask p.1 q.1);
  left_unit = λ x p. ap₂ line_sum (omega (arith, p.0)) (both-left x.mask);
  right_unit = λ x p. ap₂ line_sum (omega (arith, p.0)) (both-right x.mask);
  associative = λ x y z p q r. ap₂ line_sum (omega arith) (both-associative x.mask y.mask z.mask p.1 q.1 r.1);
}

-- what is not among lines together is in neither part of them
pub lacks_wanted : (wanted : Mask) (x y : LineSum) → IsLineSum x → IsLineSum y → (shared wanted (both_line_sums x y).mask == 0) ≡ true → ((shared wanted x.mask == 0) ≡ true) × ((shared wanted y.mask == 0) ≡ true)
lacks_wanted wanted x y p q none =
    let parts = shared-in_parts wanted x.mask y.mask p.1 q.1 (eqb-true (shared wanted (both_masks x.mask y.mask)) 0 none) in
    (eq-eqb (shared wanted x.mask) 0 parts.0, eq-eqb (shared wanted y.mask) 0 parts.1)
