use Rattle.std.proofs.Common.{◌++◌, ◌∙◌, ap, ap₂}
use Rattle.std.proofs.lemmas.Result.{on_ok_weaker}
use Rattle.rv_tree.specs.Rows.{values}
use Rattle.rv_tree.proofs.Rows.{values-cloned, values-append}
use Rattle.rv_tree.proofs.row.Row.share.Goals as goal

pub returns : goal.returns
returns g c =
    on_ok_weaker c.extend_with_clones.result
    (λ added. ap values added.1
    ∙ values-append c.self.inside.items.items added.0
    ∙ ap₂ (λ xs ys. xs ++ ys) c.self.view_is (values-cloned c.args.shared.now added.0 added.2))
    c.extend_with_clones.ensures.items
