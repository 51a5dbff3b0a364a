use Rattle.std.proofs.Common.{◌≡◌, ◌+◌, ◌≤◌, length, option_map}
use Rattle.rv_stmt.specs.Memory.{closed_within}
use Rattle.rv_stmt.proofs.memory.closed_within.Given as goal

abbrev pub invariant-loop-token : goal.invariant-loop-token
invariant-loop-token l = record {
  within : l.length + length l.rest ≡ length l.run;
  depth : l.depth ≤ l.length;
  found : option_map (λ n. l.length + n) (closed_within l.depth l.rest) ≡ closed_within 0 l.run;
}

abbrev pub decreases-loop-token : goal.decreases-loop-token
decreases-loop-token l = length l.rest
