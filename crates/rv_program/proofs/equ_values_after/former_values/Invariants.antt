use Rattle.std.proofs.Common.{◌≤◌, length}
use Rattle.rv_program.proofs.FormerEqus.{AreFormerBelow}
use Rattle.rv_program.proofs.equ_values_after.former_values.Given as goal

-- the first names have been looked at
abbrev pub invariant-loop-number : goal.invariant-loop-number
invariant-loop-number l = record {
  within : l.number ≤ length l.text.names.now;
  below : AreFormerBelow l.before l.text l.number l.row.items l.differing;
}
