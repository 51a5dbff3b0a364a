use Rattle.std.proofs.Common.{◌∙◌, ap}
use Rattle.rv_tree.specs.Sums.{total}
use Rattle.rv_tree.specs.SumLaws.{total_is_value}
use Rattle.rv_tree.proofs.tree.SumTree.total.Goals as goal

pub returns-in-Some-clause-value : goal.returns-in-Some-clause-value
returns-in-Some-clause-value g c =
    let j = g.T.Sum.Joined in
    let laws = g.met.T.Sum.Joined.laws in
    let of = g.T.Summed.sum_of in
    let is = rw c.in-Some.is at c.self.view_is in
    let value : j.IsValue c.sum.result.now = rw c.sum.ensures.value (total_is_value laws of _ c.sum.ensures.sums) in
    c.join.ensures ∙ ap (j.op c.sum.result.now) c.unit-in-Some.ensures ∙ laws.right_unit c.sum.result.now value ∙ c.sum.ensures.value ∙ ap (λ d. total j.empty j.op of d.items) (c.deref.ensures ∙ is)
