use Rattle.std.proofs.lemmas.Grind.{common_steps}
use Rattle.std.proofs.Common.{◌≡◌, ℕ, ◌≤◌, List, ◌++◌, ◌∙◌, length, refl, arith}
use Rattle.std.specs.List.{insert}
use Rattle.std.proofs.lemmas.List.{length-map}
use Rattle.std.proofs.lemmas.List.Edits.{insert-append_left, insert-append_right, length-insert}
use Rattle.rv_tree.specs.Rows.{values}
use Rattle.rv_tree.proofs.node.Subtree.cut_in_two.Goals as goal

-- how long a half is, and a half with one more item
lengths : {A : Type 0} {a b : List A} (x y : List A) (i : ℕ) (z : A) → a ≡ insert x i z → b ≡ y → length x ≡ 16 → length y ≡ 16 → i ≤ 16 → (length a ≡ 17) × (length b ≡ 16)
lengths x y i z p q l k le =
    let within : i ≤ length x = rw l le in
    (rw (p, length-insert x i z within) (omega (arith, l)), rw q k)

pub two_leaves-requires-clause-some : goal.two_leaves-requires-clause-some
two_leaves-requires-clause-some g c =
    let first = length-map c.halves.result.0.now (λ x. x.value) ∙ c.halves.ensures.first in
    let second = length-map c.halves.result.1.now (λ x. x.value) ∙ c.halves.ensures.second in
    let l = lengths _ _ _ _ c.in_ok-first.ensures c.in_ok-of.ensures first second c.if-before-le-HALF.true in
    (omega (arith, l.0), omega (arith, l.1))

pub two_leaves-requires-clause-few : goal.two_leaves-requires-clause-few
two_leaves-requires-clause-few g c =
    let first = length-map c.halves.result.0.now (λ x. x.value) ∙ c.halves.ensures.first in
    let second = length-map c.halves.result.1.now (λ x. x.value) ∙ c.halves.ensures.second in
    let l = lengths _ _ _ _ c.in_ok-first.ensures c.in_ok-of.ensures first second c.if-before-le-HALF.true in
    omega (arith, l.0, l.1)

pub returns-then-before-le-HALF-clause-items : goal.returns-then-before-le-HALF-clause-items
returns-then-before-le-HALF-clause-items g c =
    let first = length-map c.halves.result.0.now (λ x. x.value) ∙ c.halves.ensures.first in
    let within : c.args.before ≤ length (values c.halves.result.0.now) = rw first c.if-before-le-HALF.true in
    let edit = insert-append_left (values c.halves.result.0.now) (values c.halves.result.1.now) c.args.before c.args.item.value within in
    let items : c.in_ok-first.first ++ c.in_ok-of.field-0 ≡ insert c.args.row.now c.args.before c.args.item.value =
    rw (c.in_ok-first.ensures, c.in_ok-of.ensures, c.halves.ensures.items, edit) refl in
    rw items at c.two_leaves.ensures.items

pub returns-clause-items : goal.returns-clause-items
returns-clause-items g c =
    let first = length-map c.halves.result.0.now (λ x. x.value) ∙ c.halves.ensures.first in
    let edit = insert-append_right (values c.halves.result.0.now) (values c.halves.result.1.now) 16 c.args.before c.args.item.value first (omega (arith, c.if-before-le-HALF.false)) in
    let items : c.in_ok-of-2.field-0 ++ c.in_ok-second.second ≡ insert c.args.row.now c.args.before c.args.item.value =
    rw (c.in_ok-of-2.ensures, c.in_ok-second.ensures, c.halves.ensures.items, edit) refl in
    rw items at c.two_leaves-2.ensures.items

pub two_leaves-requires-2-clause-some : goal.two_leaves-requires-2-clause-some
two_leaves-requires-2-clause-some g c = grind (arith, common_steps)

pub two_leaves-requires-2-clause-few : goal.two_leaves-requires-2-clause-few
two_leaves-requires-2-clause-few g c = grind (arith, common_steps)
