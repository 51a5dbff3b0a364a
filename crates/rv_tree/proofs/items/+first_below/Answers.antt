use Rattle.std.proofs.Common.{rules, ◌++◌, ◌∷◌, [], length, Some, arith, ap, sym, ◌∙◌}
use Rattle.std.proofs.lemmas.List.{append_assoc, length-append}
use Rattle.rv_tree.specs.Items.{subtrees, items_left}
use Rattle.rv_tree.specs.ItemLaws.{left_pushed, low_pushed, subtrees_pushed, subtrees_count}
use Rattle.rv_tree.proofs.items.+first_below.Goals as goal

pub first_below-requires : goal.first_below-requires
first_below-requires g t c = λ κs w.
    let right = c.sides.result.1.now.value in
    let lent = c.args.left.now.items in
    let count = subtrees_count lent in
    let low = low_pushed 0 (subtrees lent) right c.requires.low (omega (arith, c.requires.fits, c.sides.ensures.height, count)) in
    let pushed = ap subtrees c.push.ensures.items ∙ subtrees_pushed lent c.deref.result ∙ ap (λ d. subtrees lent ++ Some d ∷ []) c.deref.ensures in
    let more = ap length c.push.ensures.items ∙ length-append lent (Some c.deref.result ∷ []) in
    (search rules, (search rules, (search rules, (search rules, (rw pushed low, omega (arith, c.requires.fits, c.sides.ensures.height, more, ap (λ d. d.height) c.deref-2.ensures))))))

pub returns-clause-items : goal.returns-clause-items
returns-clause-items g t c =
    let first = c.sides.result.0.now.value.items in
    let right = c.sides.result.1.now.value in
    let lent = c.args.left.now.items in
    let pushed = ap subtrees c.push.ensures.items ∙ subtrees_pushed lent c.deref.result ∙ ap (λ d. subtrees lent ++ Some d ∷ []) c.deref.ensures in
    ap (λ xs. xs ++ items_left (subtrees lent)) (sym c.sides.ensures.items)
    ∙ append_assoc first right.items (items_left (subtrees lent))
    ∙ ap (λ xs. first ++ xs) (sym (ap items_left pushed ∙ left_pushed (subtrees lent) right))
    ∙ ap (λ d. d.items ++ items_left (subtrees c.push.new.self.items)) (sym c.deref-2.ensures)
    ∙ c.first_below.ensures.items
