use Rattle.std.proofs.Common.{◌∙◌, ap}
use Rattle.std.proofs.Math.ListN.{set}
use Rattle.std.proofs.lemmas.List.{map-set}
use Rattle.rv_tree.proofs.row.Row.replace.Goals as goal

pub returns : goal.returns
returns g c =
    map-set (λ x. x.value) c.self.inside.items.items c.args.before c.args.item
    ∙ ap (λ xs. set xs c.args.before c.args.item.value) c.self.view_is
