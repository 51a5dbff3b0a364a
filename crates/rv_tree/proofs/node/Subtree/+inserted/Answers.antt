use Rattle.std.proofs.Common.{◌+◌, arith, ap, ◌∙◌}
use Rattle.std.proofs.Math.Nat.{max_comm}
use Rattle.std.proofs.lemmas.Grind.{common_steps}
use Rattle.std.proofs.lemmas.List.Edits.{insert-append_right}
use Rattle.std.proofs.lemmas.Result.{IfOk-weaker}
use Rattle.rv_tree.proofs.Turns.{height-grown, settled-swapped}
use Rattle.rv_tree.proofs.node.Subtree.+inserted.Goals as goal

pub returns-clause-items : goal.returns-clause-items
returns-clause-items g t c = grind (arith, common_steps, insert-append_right c.sides.result.0.now.value.items c.sides.result.1.now.value.items c.len-left_len.result c.args.before c.args.item.value)

pub returns-then-before-left_len-clause-height : goal.returns-then-before-left_len-clause-height
returns-then-before-left_len-clause-height g t c =
    let s = c.sides.ensures in
    let left = c.sides.result.0.now.value.height in
    let right = c.sides.result.1.now.value.height in
    let whole = rw c.deref-here.ensures at s.height in
    IfOk-weaker c.balanced.result _ _ (λ r is. height-grown left right c.args.tree.now.value.height c.in_ok-side.side.value.height r.value.height whole s.balanced c.in_ok-side.ensures.height is) (rw c.in_ok-clone.ensures.cases at c.balanced.ensures.height)

pub returns-clause-height : goal.returns-clause-height
returns-clause-height g t c =
    let s = c.sides.ensures in
    let left = c.sides.result.0.now.value.height in
    let right = c.sides.result.1.now.value.height in
    let side = c.in_ok-side-2.side.value.height in
    let whole = ap (λ n. n + 1) (max_comm right left) ∙ rw c.deref-here.ensures at s.height in
    IfOk-weaker c.balanced-2.result _ _ (λ r is. height-grown right left c.args.tree.now.value.height side r.value.height whole (s.balanced.1, s.balanced.0) c.in_ok-side-2.ensures.height (settled-swapped left side r.value.height is)) (rw c.in_ok-clone-2.ensures.cases at c.balanced-2.ensures.height)

pub balanced-requires-2-clause-few : goal.balanced-requires-2-clause-few
balanced-requires-2-clause-few c = grind (arith, common_steps)

pub balanced-requires-clause-few : goal.balanced-requires-clause-few
balanced-requires-clause-few c = grind (arith, common_steps)

pub returns-then-before-left_len-clause-items : goal.returns-then-before-left_len-clause-items
returns-then-before-left_len-clause-items c = grind (arith, common_steps)

pub inserted-requires-2 : goal.inserted-requires-2
inserted-requires-2 c = grind (arith, common_steps)

pub inserted-requires : goal.inserted-requires
inserted-requires c = grind (arith, common_steps)
