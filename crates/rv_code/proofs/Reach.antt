-- The slices of a layout give its registers no number above 31, and its value no number above thirty bits.
use Rattle.std.proofs.Common.{◌≡◌, ◌+◌, ◌<◌, ◌^◌, true, refl, arith, ltb, ltb-true}
use Rattle.rv_ops.specs.declared.op.Shape.{Shape}
use Rattle.rv_ops.specs.declared.op.Shape.TheVariants.{Upper}
use Rattle.rv_ops.specs.declared.layouts.Field.{Field}
use Rattle.rv_ops.specs.declared.layouts.Field.TheVariants.{Rd, Rs1, Rs2, Value}
use Rattle.rv_ops.specs.Table.{layout_of, classes_of, slices_of}
use Rattle.rv_code.specs.Decoding.{first_of, reach}

rd_reach_test : (s : Shape) → ltb (first_of (classes_of s).rd + reach Rd (slices_of s)) 32 ≡ true
unfolding layout_of
rd_reach_test Upper = refl
rd_reach_test _ = refl

pub rd_reach : (s : Shape) → first_of (classes_of s).rd + reach Rd (slices_of s) < 32
rd_reach s = ltb-true _ _ (rd_reach_test s)

rs1_reach_test : (s : Shape) → ltb (first_of (classes_of s).rs1 + reach Rs1 (slices_of s)) 32 ≡ true
unfolding layout_of
rs1_reach_test Upper = refl
rs1_reach_test _ = refl

pub rs1_reach : (s : Shape) → first_of (classes_of s).rs1 + reach Rs1 (slices_of s) < 32
rs1_reach s = ltb-true _ _ (rs1_reach_test s)

rs2_reach_test : (s : Shape) → ltb (first_of (classes_of s).rs2 + reach Rs2 (slices_of s)) 32 ≡ true
unfolding layout_of
rs2_reach_test Upper = refl
rs2_reach_test _ = refl

pub rs2_reach : (s : Shape) → first_of (classes_of s).rs2 + reach Rs2 (slices_of s) < 32
rs2_reach s = ltb-true _ _ (rs2_reach_test s)

value_reach_test : (s : Shape) → ltb (reach Value (slices_of s)) (2 ^ 30) ≡ true
unfolding layout_of
value_reach_test Upper = refl
value_reach_test _ = refl

pub value_reach : (s : Shape) → reach Value (slices_of s) < 2 ^ 30
value_reach s = ltb-true _ _ (value_reach_test s)

pub field_reach : (s : Shape) (f : Field) → reach f (slices_of s) < 2 ^ 30
field_reach s Rd = let most = rd_reach s in omega (arith, most)
field_reach s Rs1 = let most = rs1_reach s in omega (arith, most)
field_reach s Rs2 = let most = rs2_reach s in omega (arith, most)
field_reach s Value = value_reach s
