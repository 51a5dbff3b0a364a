use Rattle.std.proofs.Common.{◌≡◌, ◌+◌, ◌≤◌, length}
use Rattle.rv_stmt.specs.FirstRun.{run_length, run_end}
use Rattle.rv_stmt.proofs.runs.run_extent.Given as goal

abbrev pub invariant-loop-token : goal.invariant-loop-token
invariant-loop-token l = record {
  within : l.length + length l.rest ≡ length l.tokens;
  depth : l.depth ≤ l.length;
  length : l.length + run_length l.depth l.rest ≡ run_length 0 l.tokens;
  end : run_end l.end l.depth l.rest ≡ run_end l.before 0 l.tokens;
}

abbrev pub decreases-loop-token : goal.decreases-loop-token
decreases-loop-token l = length l.rest
