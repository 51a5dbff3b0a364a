use Rattle.std.proofs.Common.{◌≡◌, ◌∙◌, ap, map, Some}
use Rattle.std.specs.Prelude.{slice_get, slice_set}
use Rattle.rv_tree.specs.SameSums.{same-set}
use Rattle.rv_tree.proofs.node.Subtree.replaced_in_leaf.Goals as goal

pub remade-requires-clause-same : goal.remade-requires-clause-same
remade-requires-clause-same g c = λ yes.
    let of = g.T.Summed.sum_of in
    let items = c.args.leaf.now.items in
    let at : slice_get items c.args.before ≡ Some c.get.result.now = rw c.row.ensures.items at c.get.ensures in
    let sum : of c.args.item.value ≡ of c.get.result.now = rw c.deref.ensures at (c.has_sum_of-same.ensures yes) in
    let made = c.replace.ensures ∙ ap (λ xs. slice_set xs c.args.before c.args.item.value) (c.in_ok-row.ensures ∙ c.row-2.ensures.items) in
    ap (map of) made ∙ same-set of items c.args.before c.get.result.now c.args.item.value at sum
