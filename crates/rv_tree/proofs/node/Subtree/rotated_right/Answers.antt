use Rattle.std.proofs.lemmas.Grind.{common_steps}
use Rattle.std.proofs.Common.{inr, arith, ap, ◌∙◌, ◌+◌}
use Rattle.std.proofs.Math.Nat.{max_comm}
use Rattle.std.proofs.lemmas.Result.{IfOk-weaker}
use Rattle.rv_tree.proofs.Turns.{items-behind, shared-behind, height-turned, height-shared}
use Rattle.rv_tree.proofs.node.Subtree.rotated_right.Goals as goal

pub returns-then-height : goal.returns-then-height
returns-then-height g c =
    let s = c.sides.ensures in
    let left = c.args.left.now in
    let right = c.args.right.value in
    let outer = c.sides.result.0.now.value in
    let inner = c.sides.result.1.now.value in
    let low = c.in_ok-low.low.value in
    let outer_is = c.height.ensures.value ∙ ap (λ x. x.height) c.deref.ensures in
    let inner_is = c.height-2.ensures.value ∙ ap (λ x. x.height) c.deref-2.ensures in
    record {
      items = IfOk-weaker c.joined-then-height.result _ _ (λ t is. items-behind left.items outer.items inner.items right.items low.items t.value.items s.items (rw c.in_ok-clone.ensures.cases at c.in_ok-low.ensures.items) is) (rw c.in_ok-clone-2.ensures.cases at c.joined-then-height.ensures.items);
      height = IfOk-weaker c.joined-then-height.result _ _ (λ t is. height-turned right.height left.height inner.height outer.height low.height t.value.height (ap (λ n. n + 1) (max_comm inner.height outer.height) ∙ s.height) (s.balanced.1, s.balanced.0) c.requires.higher (omega (arith, outer_is, inner_is, c.if-height.true)) ((rw c.in_ok-clone.ensures.cases at c.in_ok-low.ensures.height) ∙ ap (λ n. n + 1) (max_comm inner.height right.height)) (is ∙ ap (λ n. n + 1) (max_comm outer.height low.height))) (rw c.in_ok-clone-2.ensures.cases at c.joined-then-height.ensures.height);
    }

pub returns : goal.returns
returns g c =
    let s = c.sides.ensures in
    let left = c.args.left.now in
    let right = c.args.right.value in
    let outer = c.sides.result.0.now.value in
    let inner = c.sides.result.1.now.value in
    let outer_is = c.height.ensures.value ∙ ap (λ x. x.height) c.deref.ensures in
    let inner_is = c.height-2.ensures.value ∙ ap (λ x. x.height) c.deref-2.ensures in
    record {
      items = IfOk-weaker c.shared_out.result _ _ (λ t is. shared-behind left.items outer.items inner.items right.items t.value.items s.items is) (rw (c.in_ok-clone-3.ensures.cases, c.deref-3.ensures) at c.shared_out.ensures.items);
      height = IfOk-weaker c.shared_out.result _ _ (λ t is. height-shared right.height left.height inner.height outer.height t.value.height (ap (λ n. n + 1) (max_comm inner.height outer.height) ∙ s.height) (s.balanced.1, s.balanced.0) c.requires.higher (omega (arith, outer_is, inner_is, c.if-height.false)) (inr is)) (rw c.in_ok-clone-3.ensures.cases at c.shared_out.ensures.height);
    }

pub joined-requires-then-height-clause-few : goal.joined-requires-then-height-clause-few
joined-requires-then-height-clause-few g c = grind (arith, common_steps)

pub joined-requires-clause-few : goal.joined-requires-clause-few
joined-requires-clause-few g c = grind (arith, common_steps)

pub shared_out-requires-clause-few : goal.shared_out-requires-clause-few
shared_out-requires-clause-few g c = grind (arith, common_steps)
