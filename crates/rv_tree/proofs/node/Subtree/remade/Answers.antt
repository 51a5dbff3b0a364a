use Rattle.std.proofs.Common.{◌∙◌, sym}
use Rattle.rv_tree.specs.SameSums.{total-same, all_sums-same}
use Rattle.rv_tree.proofs.node.Subtree.remade.Goals as goal

pub leaf_with_sum-leaf-requires-clause-sum : goal.leaf_with_sum-leaf-requires-clause-sum
leaf_with_sum-leaf-requires-clause-sum g c =
    let j = g.T.Sum.Joined in
    c.own_sum.ensures.value ∙ sym (total-same g.T.Summed.sum_of j.empty j.op c.args.self.now.items c.args.row (c.requires.same c.if-same.true))

pub leaf_with_sum-leaf-requires-clause-sums : goal.leaf_with_sum-leaf-requires-clause-sums
leaf_with_sum-leaf-requires-clause-sums g c =
    all_sums-same g.T.Summed.sum_of g.T.Sum.Joined.IsValue c.args.self.now.items c.args.row (c.requires.same c.if-same.true) c.own_sum.ensures.sums
