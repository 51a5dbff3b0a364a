use Rattle.std.proofs.Common.{◌∙◌, ap}
use Rattle.rv_tree.specs.SumLaws.{total_is_value}
use Rattle.rv_tree.proofs.node.Subtree.own_sum.Goals as goal

pub returns-clause-value : goal.returns-clause-value
returns-clause-value g c =
    let j = g.T.Sum.Joined in
    let laws = g.met.T.Sum.Joined.laws in
    let value : j.IsValue c.sum.result.now = rw c.sum.ensures.value (total_is_value laws g.T.Summed.sum_of _ c.sum.ensures.sums) in
    c.join.ensures ∙ ap (j.op c.sum.result.now) c.unit.ensures ∙ laws.right_unit c.sum.result.now value ∙ c.sum.ensures.value
