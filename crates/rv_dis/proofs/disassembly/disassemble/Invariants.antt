use Rattle.std.proofs.Common.{List, ◌++◌, length}
use Rattle.rv_dis.specs.Rows.{Shows}
use Rattle.rv_dis.specs.declared.row.DisRow.{DisRow}
use Rattle.rv_dis.proofs.disassembly.disassemble.Given as goal

-- the rows so far, and then those of the rest, are those of all
abbrev pub invariant-loop-rest : goal.invariant-loop-rest
invariant-loop-rest l = (rows : List DisRow) → Shows l.at l.rest rows → Shows l.address l.bytes (l.rows.items ++ rows)

abbrev pub decreases-loop-rest : goal.decreases-loop-rest
decreases-loop-rest l = length l.rest
