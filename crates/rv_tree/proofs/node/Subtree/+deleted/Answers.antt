use Rattle.std.proofs.lemmas.Grind.{common_steps}
use Rattle.std.proofs.Common.{◌-◌, sym, arith}
use Rattle.std.proofs.lemmas.List.Edits.{remove-append_left, remove-append_right}
use Rattle.rv_tree.proofs.LeftOver.{items_left, items_right, height_left, height_right}
use Rattle.rv_tree.proofs.node.Subtree.+deleted.Goals as goal

pub returns-then-before-left_len-clause-height : goal.returns-then-before-left_len-clause-height
returns-then-before-left_len-clause-height g t c =
    let s = c.sides.ensures in
    height_left (λ d. d.value.height) c.in_ok-side.side _ _ _ _ s.height s.balanced s.high.1 (rw c.deref-then-before-left_len.ensures at c.in_ok-side.ensures.height) c.in_ok-left_over.ensures.height

pub returns-then-before-left_len-clause-items : goal.returns-then-before-left_len-clause-items
returns-then-before-left_len-clause-items g t c =
    let left = c.sides.result.0.now.value.items in
    let right = c.sides.result.1.now.value.items in
    let within = rw (c.len-left_len.ensures, c.deref.ensures) at c.if-before-left_len.true in
    let edit = remove-append_left left right c.args.before within in
    rw (← c.sides.ensures.items, edit) (items_left (λ d. d.value.items) c.in_ok-side.side left right _ c.args.before (rw c.deref-then-before-left_len.ensures at c.in_ok-side.ensures.items) c.in_ok-left_over.ensures.items)

pub returns-clause-items : goal.returns-clause-items
returns-clause-items g t c =
    let left = c.sides.result.0.now.value.items in
    let right = c.sides.result.1.now.value.items in
    let edit = remove-append_right left right c.len-left_len.result c.args.before (sym (rw c.deref.ensures at c.len-left_len.ensures)) c.if-before-left_len.false in
    rw (← c.sides.ensures.items, edit) (items_right (λ d. d.value.items) c.in_ok-side-2.side left right _ (c.args.before - c.len-left_len.result) (rw c.deref-2.ensures at c.in_ok-side-2.ensures.items) c.in_ok-right_over.ensures.items)

pub returns-clause-height : goal.returns-clause-height
returns-clause-height g t c =
    let s = c.sides.ensures in
    height_right (λ d. d.value.height) c.in_ok-side-2.side _ _ _ _ s.height s.balanced s.high.0 (rw c.deref-2.ensures at c.in_ok-side-2.ensures.height) c.in_ok-right_over.ensures.height

pub right_over-requires-clause-few : goal.right_over-requires-clause-few
right_over-requires-clause-few c = grind (arith, common_steps)

pub deleted-requires-2 : goal.deleted-requires-2
deleted-requires-2 c = grind (arith, common_steps)

pub deleted-requires : goal.deleted-requires
deleted-requires c = grind (arith, common_steps)

pub left_over-requires-clause-few : goal.left_over-requires-clause-few
left_over-requires-clause-few c = grind (arith, common_steps)
