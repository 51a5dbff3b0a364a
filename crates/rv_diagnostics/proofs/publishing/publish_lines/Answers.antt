use Rattle.std.proofs.Common.{◌++◌, ap, ◌∙◌}
use Rattle.json.specs.Print.{print}
use Rattle.rv_diagnostics.specs.Json.{frame}
use Rattle.rv_diagnostics.proofs.Publications.{published}
use Rattle.rv_diagnostics.proofs.publishing.publish_lines.Goals as goal

pub returns : goal.returns
returns g c =
    c.in_ok-end_diagnostics.ensures
    ∙ ap (λ t. c.args.out.now.items ++ frame (print t)) (published _ _ _ _ c.in_ok-m.ensures c.in_ok-put_publication.ensures)
