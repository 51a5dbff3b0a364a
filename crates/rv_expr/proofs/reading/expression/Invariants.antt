use Rattle.std.proofs.Common.{◌≡◌, map}
use Rattle.rv_expr.specs.ReaderState.{left_of}
use Rattle.rv_expr.specs.TokenRoles.{token_role}
use Rattle.rv_expr.specs.Reading.{run_of, expression_of}
use Rattle.rv_expr.proofs.reading.expression.Given as goal

abbrev pub invariant-loop-k : goal.invariant-loop-k
invariant-loop-k l =
    left_of l.pending.items l.have (map token_role (run_of l.tokens l.k l.to)) ≡ expression_of (run_of l.tokens l.from l.to)
