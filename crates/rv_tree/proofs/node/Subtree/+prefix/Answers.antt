use Rattle.std.proofs.lemmas.Grind.{common_steps}
use Rattle.std.proofs.Common.{◌≡◌, ◌++◌, arith, ap}
use Rattle.rv_tree.proofs.Prefixes.{total-take_right}
use Rattle.rv_tree.proofs.node.Subtree.+prefix.Goals as goal

pub returns-else-count-left_len : goal.returns-else-count-left_len
returns-else-count-left_len g t c =
    let laws = g.met.T.Sum.Joined.laws in
    let ok = rw c.in-Fork.is at c.self.invariant in
    let is = rw c.in-Fork.is at c.self.view_is in
    let items : c.in-Fork.left.value.items ++ c.in-Fork.right.value.items ≡ c.args.self.now.items = ap (λ d. d.items) is in
    let j = total-take_right laws g.T.Summed.sum_of c.in-Fork.left.value.items c.in-Fork.right.value.items c.len-left_len.result c.args.count (cc) (omega arith) ok.sums in
    cc (rw items at j)

pub prefix-rest-requires : goal.prefix-rest-requires
prefix-rest-requires c = grind (arith, common_steps)

pub returns-then-count-left_len : goal.returns-then-count-left_len
returns-then-count-left_len c = grind (arith, common_steps)
