use Rattle.std.proofs.Common.{◌≡◌, ◌+◌, ◌≤◌, true, nat_eq, arith, refl, sym, ◌∙◌, eq-eqb}
use Rattle.std.proofs.lemmas.Bool.{cond-true}
use denote.Enum.Declared.{tag_of}
use Rattle.rv_ops.specs.contracts.layouts.Field.{the_type as field_type}
use Rattle.rv_code.proofs.Slices.{has_bits_of_slices, shifted}
use Rattle.rv_code.proofs.decoding.slice_bits.Goals as goal

pub returns-clause-value : goal.returns-clause-value
returns-clause-value c =
    let s = c.args.slice.now in
    let placed = has_bits_of_slices s c.requires in
    let h : s.width + s.field_bit ≤ 32 = omega (arith, placed.field) in
    let same : nat_eq (tag_of field_type s.field) (tag_of field_type s.field) ≡ true = eq-eqb _ _ refl in
    shifted c.cut.result c.args.word s.word_bit s.width s.field_bit h c.cut.ensures ∙ sym (cond-true _ _ _ same)
