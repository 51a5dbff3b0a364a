use Rattle.std.proofs.lemmas.Grind.{common_steps}
use Rattle.std.proofs.Common.{◌∙◌, ap, arith}
use Rattle.std.specs.List.{insert}
use Rattle.rv_tree.specs.Rows.{values}
use Rattle.rv_tree.proofs.Rows.{values-insert}
use Rattle.rv_tree.proofs.row.Row.insert.Goals as goal

pub returns : goal.returns
returns g c =
    ap values c.in_ok-insert.ensures.items
    ∙ values-insert c.self.inside.items.items c.args.before c.args.item
    ∙ ap (λ xs. insert xs c.args.before c.args.item.value) c.self.view_is

pub invariant_of-self-2 : goal.invariant_of-self-2
invariant_of-self-2 g c = grind (arith, common_steps)
