use Rattle.std.proofs.Common.{ℕ, ◌<◌, ap, rules}
use Rattle.std.proofs.lemmas.Nat.{and_mask, one_shl}
use Rattle.rv_manual.specs.declared.fields.EncodedField.{EncodedField}
use Rattle.rv_manual.proofs.fields.field_of.Goals as goal

pub returns : goal.returns
returns c =
    let s = c.args.stretch in
    let narrow : s.width < 32 = search rules in
    let of_bits : ℕ → EncodedField = λ bits. record { stretch = s; bits = bits } in
    ap of_bits (rw (one_shl s.width 32 narrow) (and_mask _ _))
