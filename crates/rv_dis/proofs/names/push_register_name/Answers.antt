use Rattle.std.proofs.Common.{◌++◌, ◌∙◌, ap, length, arith}
use Rattle.std.proofs.lemmas.List.{length-take-le}
use Rattle.rv_dis.proofs.PaddedNames.{register_begins, register_cut, register_length, register_text}
use Rattle.rv_dis.proofs.names.push_register_name.Goals as goal

pub push_padded-requires-clause-within : goal.push_padded-requires-clause-within
push_padded-requires-clause-within c =
    rw (c.from-2.ensures, c.row_at-len.ensures.len, c.row_at-len.ensures.text, c.from.ensures, c.number.ensures.value) (register_cut c.args.register).within

pub push_padded-requires-clause-ascii : goal.push_padded-requires-clause-ascii
push_padded-requires-clause-ascii c =
    rw (c.from-2.ensures, c.row_at-len.ensures.len, c.row_at-len.ensures.text, c.from.ensures, c.number.ensures.value) (register_cut c.args.register).ascii

pub push_padded-requires-clause-room : goal.push_padded-requires-clause-room
push_padded-requires-clause-room c =
    let len = length-take-le (register_length c.args.register) (register_text c.args.register) (register_cut c.args.register).within in
    let whole = ap length (register_begins c.args.register (omega (arith, c.number.ensures.below, c.number.ensures.value))) in
    rw (c.from-2.ensures, c.row_at-len.ensures.len, c.from.ensures, c.number.ensures.value) (omega (arith, c.requires, len, whole))

pub returns : goal.returns
returns c =
    let begins = register_begins c.args.register (omega (arith, c.number.ensures.below, c.number.ensures.value)) in
    c.push_padded.ensures ∙ ap (λ t. c.args.out.now ++ t) (rw (c.from-2.ensures, c.row_at-len.ensures.len, c.row_at-len.ensures.text, c.from.ensures, c.number.ensures.value) begins)
