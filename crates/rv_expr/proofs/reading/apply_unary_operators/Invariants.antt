use Rattle.std.proofs.Common.{◌≡◌, List, Option, vec_len}
use Rattle.rv_expr.specs.Tree.{Tree}
use Rattle.rv_expr.specs.declared.reading.Pending.{Pending}
use Rattle.rv_expr.specs.Reading.{signed}
use Rattle.rv_expr.specs.ReaderState.{waits}
use Rattle.rv_expr.proofs.reading.apply_unary_operators.Given as goal

abbrev pub invariant-loop-last : goal.invariant-loop-last
invariant-loop-last l =
    (next : List Pending → Tree → Option Tree) → signed next (waits l.pending.items) l.whole ≡ signed next (waits l.fn.pending.items) l.fn.operand

abbrev pub decreases-loop-last : goal.decreases-loop-last
decreases-loop-last l = vec_len l.pending
