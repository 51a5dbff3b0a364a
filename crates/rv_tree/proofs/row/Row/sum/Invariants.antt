use Rattle.std.proofs.Common.{◌≡◌, ◌≤◌, ◌-◌, take, drop}
use Rattle.rv_tree.specs.Sums.{total, AllSums}
use Rattle.rv_tree.proofs.row.Row.sum.Given as goal

abbrev pub invariant-loop-left : goal.invariant-loop-left
invariant-loop-left g l =
    let j = g.T.Sum.Joined in
    let of = g.T.Summed.sum_of in
    record {
      least : l.from ≤ l.left;
      most : l.left ≤ l.end;
      sum : l.sum ≡ total j.empty j.op of (drop l.left (take l.end l.self));
      sums : AllSums j.IsValue of (drop l.left (take l.end l.self));
    }

abbrev pub decreases-loop-left : goal.decreases-loop-left
decreases-loop-left g l = l.left - l.from
