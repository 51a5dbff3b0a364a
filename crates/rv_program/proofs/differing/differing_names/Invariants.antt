use Rattle.std.proofs.Common.{◌≡◌, ◌≤◌, length}
use Rattle.rv_program.proofs.DifferingNames.{HasDifferingBelow}
use Rattle.rv_program.proofs.differing.differing_names.Given as goal

abbrev pub invariant-loop-number : goal.invariant-loop-number
invariant-loop-number l = record {
  within : l.number ≤ length l.after.text.names.now;
  shift : l.differing.shift ≡ l.shift;
  so_far : HasDifferingBelow l.number l.after.text.names.now l.before l.differing;
}
