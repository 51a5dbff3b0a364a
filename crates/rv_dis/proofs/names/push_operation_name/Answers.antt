use Rattle.std.proofs.Common.{◌++◌, ◌∙◌, ap, arith}
use Rattle.rv_dis.proofs.PaddedNames.{operation_begins, operation_cut, length_of_operation}
use Rattle.rv_dis.proofs.names.push_operation_name.Goals as goal

pub push_padded-requires-clause-within : goal.push_padded-requires-clause-within
push_padded-requires-clause-within c =
    rw (c.from.ensures, c.row_at-len.ensures.len, c.row_at-len.ensures.text) (operation_cut c.args.op).within

pub push_padded-requires-clause-ascii : goal.push_padded-requires-clause-ascii
push_padded-requires-clause-ascii c =
    rw (c.from.ensures, c.row_at-len.ensures.len, c.row_at-len.ensures.text) (operation_cut c.args.op).ascii

pub push_padded-requires-clause-room : goal.push_padded-requires-clause-room
push_padded-requires-clause-room c = omega (arith, c.requires, c.from.ensures, c.row_at-len.ensures.len, length_of_operation c.args.op)

pub returns : goal.returns
returns c = c.push_padded.ensures ∙ ap (λ t. c.args.out.now ++ t) (rw (c.from.ensures, c.row_at-len.ensures.len, c.row_at-len.ensures.text) (operation_begins c.args.op))
