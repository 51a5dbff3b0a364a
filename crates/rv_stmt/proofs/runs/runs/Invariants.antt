use Rattle.std.proofs.Common.{◌≡◌, ◌++◌, length}
use Rattle.rv_stmt.specs.Runs.{runs_from}
use Rattle.rv_stmt.proofs.runs.runs.Given as goal

-- the runs so far and those of what is left are all the runs
abbrev pub invariant-loop-runs : goal.invariant-loop-runs
invariant-loop-runs l = l.runs.items ++ runs_from l.end 0 l.rest ≡ runs_from l.before 0 l.tokens

abbrev pub decreases-loop-runs : goal.decreases-loop-runs
decreases-loop-runs l = length l.rest
