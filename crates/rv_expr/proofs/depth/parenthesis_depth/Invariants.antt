use Rattle.std.proofs.Common.{◌≡◌, ◌≤◌, map, max}
use Rattle.rv_expr.specs.Depth.{depth_from, depth_of}
use Rattle.rv_expr.specs.TokenRoles.{token_role}
use Rattle.rv_expr.specs.Reading.{run_of}
use Rattle.rv_expr.proofs.depth.parenthesis_depth.Given as goal

abbrev pub invariant-loop-k : goal.invariant-loop-k
invariant-loop-k l = record {
  below : l.depth ≤ l.deepest;
  few : l.depth ≤ l.k;
  most : max l.deepest (depth_from l.depth (map token_role (run_of l.tokens l.k l.to))) ≡ depth_of (run_of l.tokens l.from l.to);
}
