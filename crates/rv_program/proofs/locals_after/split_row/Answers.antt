use Rattle.rv_program.proofs.LocalRows.{first-apart}
use Rattle.rv_program.proofs.locals_after.split_row.Goals as goal

pub returns-then-row-number-clause-lines : goal.returns-then-row-number-clause-lines
returns-then-row-number-clause-lines c =
    first-apart c.args.number c.args.rows.now c.row-item.result c.in-len1-up.len_at_least c.row-item.is c.if-row-number.true c.requires
