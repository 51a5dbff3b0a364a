use Rattle.rv_tree.specs.PassLaws.{stops_after_run}
use Rattle.rv_tree.proofs.Exits.{on_err}
use Rattle.rv_tree.proofs.node.Subtree.rewritten_leaf.Goals as goal

pub returns-in_err-remade-in-Some-clause-stops : goal.returns-in_err-remade-in-Some-clause-stops
returns-in_err-remade-in-Some-clause-stops g c =
    let j = g.T.Sum.Joined in
    on_err _ _ (stops_after_run g.P.Pass.gives g.P.Pass.refuses j.IsValue j.empty j.op g.met.T.Sum.Joined.laws g.T.Summed.sum_of c.in_ok-rewritten.ensures.runs)

pub returns-in-None-clause-stops : goal.returns-in-None-clause-stops
returns-in-None-clause-stops g c =
    let j = g.T.Sum.Joined in
    on_err _ _ (stops_after_run g.P.Pass.gives g.P.Pass.refuses j.IsValue j.empty j.op g.met.T.Sum.Joined.laws g.T.Summed.sum_of c.in_ok-rewritten.ensures.runs)
