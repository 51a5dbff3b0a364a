use Rattle.std.proofs.Common.{◌≡◌, ◌≤◌, ◌-◌, ◌++◌, List, length, map, take, drop}
use Rattle.std.specs.Prelude.{IsTrue, unwrap_or}
use Rattle.rv_tree.specs.Passes.{Runs}
use Rattle.rv_tree.specs.Sums.{total, AllSums}
use Rattle.rv_tree.proofs.row.Row.rewritten.Given as goal

-- the pass ran over the first items, and those behind them are as they were
abbrev pub invariant-loop-at : goal.invariant-loop-at
invariant-loop-at g l =
    let j = g.T.Sum.Joined in
    let of = g.T.Summed.sum_of in
    let made = unwrap_or l.made l.self in
    record {
      within : l.at ≤ length l.self;
      same : length made ≡ length l.self;
      behind : drop l.at made ≡ drop l.at l.self;
      runs : Runs g.P.Pass.gives j.op of l.fn.pass l.before (take l.at l.self) (take l.at made) l.pass;
      sum : l.sum ≡ j.op l.before (total j.empty j.op of (take l.at made));
      sums : AllSums j.IsValue of (take l.at made);
      alike : IsTrue l.same → map of (take l.at made) ≡ map of (take l.at l.self);
      accepted : (rest : List g.row.T.Denot) × g.P.Pass.accepts l.pass l.sum (drop l.at l.self ++ rest);
    }

abbrev pub decreases-loop-at : goal.decreases-loop-at
decreases-loop-at g l = length l.self - l.at
