use Rattle.std.proofs.Common.{◌≡◌, ◌++◌, length}
use Rattle.rv_stmt.proofs.string_data.push_bytes.Given as goal

abbrev pub invariant-loop-more : goal.invariant-loop-more
invariant-loop-more l = l.bytes ++ l.more ≡ l.initial.bytes ++ l.initial.more

abbrev pub decreases-loop-more : goal.decreases-loop-more
decreases-loop-more l = length l.more
