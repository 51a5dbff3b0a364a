use Rattle.std.proofs.Common.{◌+◌, max, arith, ap, ◌∙◌}
use Rattle.std.proofs.lemmas.Result.{IfOk-weaker}
use Rattle.std.proofs.lemmas.Grind.{common_steps}
use Rattle.std.proofs.lemmas.List.{set-append_left, set-append_right}
use Rattle.rv_tree.proofs.node.Subtree.+replaced.Goals as goal

pub returns-then-before-left_len-clause-items : goal.returns-then-before-left_len-clause-items
returns-then-before-left_len-clause-items g t c = grind (arith, common_steps, set-append_left c.sides.result.0.now.value.items c.sides.result.1.now.value.items c.args.before c.args.item.value)

pub returns-clause-items : goal.returns-clause-items
returns-clause-items g t c = grind (arith, common_steps, set-append_right c.sides.result.0.now.value.items c.sides.result.1.now.value.items c.len-left_len.result c.args.before c.args.item.value)

pub returns-then-before-left_len-clause-height : goal.returns-then-before-left_len-clause-height
returns-then-before-left_len-clause-height g t c =
    let right = c.sides.result.1.now.value.height in
    let side = rw c.deref-then-before-left_len.ensures at c.in_ok-side.ensures.height in
    IfOk-weaker c.joined.result _ _ (λ r is. is ∙ ap (λ h. max h right + 1) side ∙ c.sides.ensures.height) (rw c.in_ok-clone.ensures.cases at c.joined.ensures.height)

pub returns-clause-height : goal.returns-clause-height
returns-clause-height g t c =
    let left = c.sides.result.0.now.value.height in
    let side = rw c.deref-2.ensures at c.in_ok-side-2.ensures.height in
    IfOk-weaker c.joined-2.result _ _ (λ r is. is ∙ ap (λ h. max left h + 1) side ∙ c.sides.ensures.height) (rw c.in_ok-clone-2.ensures.cases at c.joined-2.ensures.height)

pub joined-requires-2-clause-few : goal.joined-requires-2-clause-few
joined-requires-2-clause-few c = grind (arith, common_steps)

pub joined-requires-clause-few : goal.joined-requires-clause-few
joined-requires-clause-few c = grind (arith, common_steps)

pub replaced-requires-2 : goal.replaced-requires-2
replaced-requires-2 c = grind (arith, common_steps)

pub replaced-requires : goal.replaced-requires
replaced-requires c = grind (arith, common_steps)
