use Rattle.std.proofs.lemmas.Grind.{common_steps}
use Rattle.std.proofs.Common.{◌+◌, ◌++◌, ◌∷◌, [], length, drop, arith, ap, sym, ◌∙◌}
use Rattle.std.proofs.lemmas.List.{drop_all, length-map}
use Rattle.rv_tree.specs.Items.{subtrees, items_left}
use Rattle.rv_tree.specs.ItemLaws.{popped_low, popped_items, popped_none}
use Rattle.rv_tree.specs.Rows.{values}
use Rattle.rv_tree.proofs.Rows.{values-from}
use Rattle.rv_tree.proofs.items.ItemsIterator.next.Goals as goal

pub invariant_of-self-in_err-node : goal.invariant_of-self-in_err-node
invariant_of-self-in_err-node g c =
    absurd (popped_none c.pop.new.self.items c.self.inside.left.items c.self.invariant.1 (c.in_ok-pop.ensures.items ∙ ap (λ o. c.pop.new.self.items ++ o ∷ []) c.in_err-node.was))

pub returns-in_err-node-clause-steps : goal.returns-in_err-node-clause-steps
returns-in_err-node-clause-steps g c =
    absurd (popped_none c.pop.new.self.items c.self.inside.left.items c.self.invariant.1 (c.in_ok-pop.ensures.items ∙ ap (λ o. c.pop.new.self.items ++ o ∷ []) c.in_err-node.was))

pub first_below-row-requires : goal.first_below-row-requires
first_below-row-requires g c =
    let popped = c.in_ok-pop.ensures.items ∙ ap (λ o. c.pop.new.self.items ++ o ∷ []) c.in_ok-node.was in
    (omega arith, popped_low c.pop.new.self.items c.self.inside.left.items c.self.invariant.1 c.in_ok-node.node popped)

pub returns-then-self-clause-steps : goal.returns-then-self-clause-steps
returns-then-self-clause-steps g c =
    let behind = items_left (subtrees c.self.inside.left.items) in
    sym c.self.view_is
    ∙ ap (λ xs. xs ++ behind) (values-from c.self.inside.row.now c.self.inside.seen c.index-self-self.result c.if-self.true c.index-self-self.is)
    ∙ ap (λ x. x ∷ (drop (c.self.inside.seen + 1) (values c.self.inside.row.now) ++ behind)) (ap (λ x. x.value) c.index-self-self.is ∙ sym c.deref.ensures)

pub returns-clause-steps : goal.returns-clause-steps
returns-clause-steps g c =
    let popped = c.in_ok-pop.ensures.items ∙ ap (λ o. c.pop.new.self.items ++ o ∷ []) c.in_ok-node.was in
    let behind = items_left (subtrees c.first_below-row.new.left.items) in
    let none_left = drop_all c.self.inside.seen (values c.self.inside.row.now) (omega (arith, c.if-self.false, length-map c.self.inside.row.now (λ x. x.value))) in
    sym c.self.view_is
    ∙ ap (λ xs. xs ++ items_left (subtrees c.self.inside.left.items)) none_left
    ∙ popped_items c.pop.new.self.items c.self.inside.left.items c.self.invariant.1 c.in_ok-node.node popped
    ∙ c.first_below-row.ensures.items
    ∙ ap (λ xs. xs ++ behind) (values-from c.first_below-row.result.now 0 c.index-row-0.result c.first_below-row.ensures.some c.index-row-0.is)
    ∙ ap (λ x. x ∷ (drop 1 (values c.first_below-row.result.now) ++ behind)) (sym c.deref-2.ensures)

pub returns-clause-goes : goal.returns-clause-goes
returns-clause-goes g c =
    let steps = returns-clause-steps g c in
    record {
      on = λ finite. (tt, finite, omega (arith, ap length steps));
      keeps = tt;
      rests = λ finite. tt;
    }

pub returns-then-self-clause-goes : goal.returns-then-self-clause-goes
returns-then-self-clause-goes g c = grind (arith, common_steps)
