use Rattle.std.proofs.Common.{arith, sym, refl}
use Rattle.rv_tree.specs.SumLaws.{total-append, all_sums-append}
use Rattle.rv_tree.proofs.Fewest.{fewest_fork, fewest_bounds}
use Rattle.rv_tree.proofs.node.Subtree.fork.Goals as goal

pub overflow_add-height : goal.overflow_add-height
overflow_add-height g c =
    let l = rw c.deref-first.ensures at c.height.ensures in
    let r = rw c.deref-second.ensures at c.height-2.ensures in
    omega (arith, l.value, l.full, r.value, r.full, fewest_bounds c.args.left.value.height, fewest_bounds c.args.right.value.height)

pub invariant_of-result : goal.invariant_of-result
invariant_of-result g c =
    let j = g.T.Sum.Joined in
    let laws = g.met.T.Sum.Joined.laws in
    let l = rw c.deref-first.ensures at c.height.ensures in
    let r = rw c.deref-second.ensures at c.height-2.ensures in
    let ls = rw c.deref-first.ensures at c.sum.ensures in
    let rs = rw c.deref-second.ensures at c.sum-2.ensures in
    record {
      len_is = cc;
      height_is = rw (c.max-height.ensures, l.value, r.value) refl;
      sum_is = rw (c.join-sum.ensures, rs.value, ls.value) (sym (total-append laws g.T.Summed.sum_of _ _ ls.sums rs.sums));
      sums = all_sums-append j.IsValue g.T.Summed.sum_of _ _ ls.sums rs.sums;
      balanced = c.requires.balanced;
      full = omega (arith, fewest_fork _ _ c.requires.balanced (omega (arith, l.value, l.positive)) (omega (arith, r.value, r.positive)), l.full, r.full);
      high = (omega (arith, l.value, l.positive), omega (arith, r.value, r.positive));
    }
