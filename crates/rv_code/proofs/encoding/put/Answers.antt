use Rattle.std.proofs.Common.{◌/◌, ◌%◌, ◌^◌, ◌∙◌, ap}
use Rattle.rv_code.proofs.Slices.{has_bits_of_slices, shifted}
use Rattle.rv_code.proofs.encoding.put.Goals as goal

pub returns-clause-value : goal.returns-clause-value
returns-clause-value c =
    let s = c.args.slice.now in
    shifted c.cut.result _ s.field_bit s.width s.word_bit (has_bits_of_slices s c.requires).word (c.cut.ensures ∙ ap (λ n. n / 2 ^ s.field_bit % 2 ^ s.width) c.field_number-number.ensures)
