use Rattle.std.proofs.Common.{◌+◌, ◌<◌, ◌≤◌, ◌^◌, ◌∙◌, ap, sym, subst, arith, rules}
use Rattle.std.proofs.lemmas.Int.{to_z-of_z}
use Rattle.std.specs.Int.{w32}
use mir.Val.{SFits}
use Rattle.rv_ops.specs.declared.layouts.Field.{Field}
use Rattle.rv_ops.specs.declared.layouts.Field.TheVariants.{Rd, Rs1, Rs2, Value}
use Rattle.rv_ops.specs.Table.{classes_of, sign_of, shape_of, slices_of}
use Rattle.rv_code.specs.Decoding.{fields_at, first_of, gathered, reach, value_of}
use Rattle.rv_code.proofs.Reach.{field_reach, rd_reach, rs1_reach, rs2_reach, value_reach}
use Rattle.rv_code.proofs.Shapes.{fields_same}
use Rattle.rv_code.proofs.decoding.fields_of.Goals as goal

pub gather-fields-requires-clause-reach : goal.gather-fields-requires-clause-reach
gather-fields-requires-clause-reach c =
    subst (λ ps. (f : Field) → reach f ps < 2 ^ 30) (sym c.slices.ensures.value) (field_reach (shape_of c.args.op))

pub register-requires : goal.register-requires
register-requires c =
    let most = subst (λ ps. c.gather-fields.result.rd ≤ reach Rd ps) c.slices.ensures.value c.gather-fields.ensures.most_rd in
    let reaches = subst (λ k. first_of k.rd + reach Rd (slices_of (shape_of c.args.op)) < 32) (sym c.classes-registers.ensures) (rd_reach (shape_of c.args.op)) in
    omega (arith, most, reaches)

pub register-requires-2 : goal.register-requires-2
register-requires-2 c =
    let most = subst (λ ps. c.gather-fields.result.rs1 ≤ reach Rs1 ps) c.slices.ensures.value c.gather-fields.ensures.most_rs1 in
    let reaches = subst (λ k. first_of k.rs1 + reach Rs1 (slices_of (shape_of c.args.op)) < 32) (sym c.classes-registers.ensures) (rs1_reach (shape_of c.args.op)) in
    omega (arith, most, reaches)

pub register-requires-3 : goal.register-requires-3
register-requires-3 c =
    let most = subst (λ ps. c.gather-fields.result.rs2 ≤ reach Rs2 ps) c.slices.ensures.value c.gather-fields.ensures.most_rs2 in
    let reaches = subst (λ k. first_of k.rs2 + reach Rs2 (slices_of (shape_of c.args.op)) < 32) (sym c.classes-registers.ensures) (rs2_reach (shape_of c.args.op)) in
    omega (arith, most, reaches)

pub signed-requires-clause-number : goal.signed-requires-clause-number
signed-requires-clause-number c =
    let most = subst (λ ps. c.gather-fields.result.value ≤ reach Value ps) c.slices.ensures.value c.gather-fields.ensures.most_value in
    let reaches = value_reach (shape_of c.args.op) in
    omega (arith, most, reaches)

pub returns : goal.returns
unfolding fields_at
returns c =
    let fits : SFits w32 c.signed.result = search rules in
    let word = c.args.word in
    let shape = shape_of c.args.op in
    let its_slices = c.slices.ensures.value in
    let its_classes = c.classes-registers.ensures in
    let found = c.gather-fields in
    fields_same
    (c.register.ensures ∙ ap (λ k. first_of k.rd + found.result.rd) its_classes ∙ ap (λ n. first_of (classes_of shape).rd + n) (found.ensures.rd ∙ ap (gathered Rd word) its_slices))
    (c.register-2.ensures ∙ ap (λ k. first_of k.rs1 + found.result.rs1) its_classes ∙ ap (λ n. first_of (classes_of shape).rs1 + n) (found.ensures.rs1 ∙ ap (gathered Rs1 word) its_slices))
    (c.register-3.ensures ∙ ap (λ k. first_of k.rs2 + found.result.rs2) its_classes ∙ ap (λ n. first_of (classes_of shape).rs2 + n) (found.ensures.rs2 ∙ ap (gathered Rs2 word) its_slices))
    (to_z-of_z w32 c.signed.result fits ∙ c.signed.ensures
    ∙ ap (λ s. value_of s found.result.value) c.sign.ensures.value
    ∙ ap (value_of (sign_of shape)) (found.ensures.value ∙ ap (gathered Value word) its_slices))
