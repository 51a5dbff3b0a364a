use Rattle.std.proofs.Common.{◌∙◌, ap}
use Rattle.std.specs.List.{remove}
use Rattle.rv_tree.specs.Rows.{values}
use Rattle.rv_tree.proofs.Rows.{values-remove}
use Rattle.rv_tree.proofs.row.Row.remove.Goals as goal

pub returns : goal.returns
returns g c =
    ap values c.remove-removed.ensures.items
    ∙ values-remove c.self.inside.items.items c.args.before
    ∙ ap (λ xs. remove xs c.args.before) c.self.view_is
