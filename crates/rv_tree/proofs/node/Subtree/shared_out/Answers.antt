use Rattle.std.proofs.Common.{arith}
use Rattle.std.proofs.lemmas.Grind.{common_steps}
use Rattle.std.proofs.lemmas.Result.{IfOk-weaker}
use Rattle.rv_tree.proofs.Turns.{items-shared, height-out}
use Rattle.rv_tree.proofs.node.Subtree.shared_out.Goals as goal

pub returns : goal.returns
returns g c =
    let s = c.sides.ensures in
    let left = c.args.left.value in
    let first = c.sides.result.0.now.value in
    let second = c.sides.result.1.now.value in
    let right = c.args.right.value in
    let middle = c.args.middle.now in
    let low_left = c.in_ok-low_left.low_left.value in
    let low_right = c.in_ok-low_right.low_right.value in
    let left_items = rw c.in_ok-clone.ensures.cases at c.in_ok-low_left.ensures.items in
    let left_height = rw c.in_ok-clone.ensures.cases at c.in_ok-low_left.ensures.height in
    let right_items = rw c.in_ok-clone-2.ensures.cases at c.in_ok-low_right.ensures.items in
    let right_height = rw c.in_ok-clone-2.ensures.cases at c.in_ok-low_right.ensures.height in
    record {
      items = IfOk-weaker c.joined-3.result _ _ (λ t is. items-shared left.items first.items second.items right.items middle.items low_left.items low_right.items t.value.items s.items left_items right_items is) c.joined-3.ensures.items;
      height = IfOk-weaker c.joined-3.result _ _ (λ t is. height-out left.height first.height second.height right.height middle.height low_left.height low_right.height t.value.height s.height c.requires.level c.requires.higher left_height right_height is) c.joined-3.ensures.height;
    }

pub joined-requires-3-clause-few : goal.joined-requires-3-clause-few
joined-requires-3-clause-few g c = grind (arith, common_steps)

pub joined-requires-2-clause-few : goal.joined-requires-2-clause-few
joined-requires-2-clause-few g c = grind (arith, common_steps)

pub joined-requires-clause-few : goal.joined-requires-clause-few
joined-requires-clause-few g c = grind (arith, common_steps)
