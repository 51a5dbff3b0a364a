use Rattle.std.proofs.Common.{◌≡◌, [], length}
use Rattle.rv_stmt.specs.Strings.{with_strings}
use Rattle.rv_stmt.proofs.string_data.strings.Given as goal

-- what is read so far, and then what is left
abbrev pub invariant-loop-runs : goal.invariant-loop-runs
invariant-loop-runs l = with_strings l.end l.runs l.bytes ≡ with_strings l.end l.initial.runs []

abbrev pub decreases-loop-runs : goal.decreases-loop-runs
decreases-loop-runs l = length l.runs
