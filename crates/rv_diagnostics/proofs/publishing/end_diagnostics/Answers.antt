use Rattle.std.proofs.Common.{◌++◌, ap, ◌∙◌}
use Rattle.json.specs.Print.{print}
use Rattle.rv_diagnostics.specs.Json.{frame}
use Rattle.rv_diagnostics.proofs.Publications.{ended}
use Rattle.rv_diagnostics.proofs.publishing.end_diagnostics.Goals as goal

pub returns : goal.returns
returns c =
    c.in_ok-end.ensures
    ∙ ap (λ t. c.args.out.now.items ++ frame (print t)) (ended _ _ c.in_ok-put_all.ensures)
