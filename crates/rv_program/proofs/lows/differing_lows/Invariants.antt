use Rattle.std.proofs.Common.{◌≤◌, length}
use Rattle.rv_program.proofs.KeptLows.{HasLowsBelow}
use Rattle.rv_program.proofs.lows.differing_lows.Given as goal

-- the set has each of the names so far for which `%pcrel_lo` gives something else
abbrev pub invariant-loop-number : goal.invariant-loop-number
invariant-loop-number l = record {
  within : l.number ≤ length l.after.text.names.now;
  so_far : HasLowsBelow l.number l.after.text.names.now l.before l.after.text l.lows;
}
