use Rattle.std.proofs.Common.{◌+◌, max, arith, length-append}
use Rattle.rv_tree.proofs.Fewest.{fewest_one, fewest_bounds, height_bound}
use Rattle.rv_tree.proofs.node.Subtree.height.Goals as goal

pub returns-in-Leaf-clause-full : goal.returns-in-Leaf-clause-full
returns-in-Leaf-clause-full g c =
    let ok = rw c.in-Leaf.is at c.self.invariant in
    rw (← c.self.view_is, c.in-Leaf.is) (omega (arith, fewest_one, ok.some))

pub returns-in-Fork-clause-low : goal.returns-in-Fork-clause-low
returns-in-Fork-clause-low g c =
    let ok = rw c.in-Fork.is at c.self.invariant in
    rw (← c.self.view_is, c.in-Fork.is, ok.height_is, length-append) (omega (arith, ok.full, fewest_bounds (max c.in-Fork.left.value.height c.in-Fork.right.value.height + 1)))

pub returns-in-Fork-clause-bounded : goal.returns-in-Fork-clause-bounded
returns-in-Fork-clause-bounded g c =
    let ok = rw c.in-Fork.is at c.self.invariant in
    rw (← c.self.view_is, c.in-Fork.is, length-append) (λ few. height_bound _ (omega (arith, ok.full)))
