use Rattle.std.proofs.Common.{arith}
use Rattle.rv_tree.proofs.node.Subtree.balanced.Goals as goal

pub joined-requires-clause-balanced : goal.joined-requires-clause-balanced
joined-requires-clause-balanced g c =
    let l = rw c.deref.ensures at c.height-left_height.ensures.value in
    let r = rw c.deref-2.ensures at c.height-right_height.ensures.value in
    (omega (arith, l, r, c.if-left_height-right_height.false), omega (arith, l, r, c.if-right_height-left_height.false))
