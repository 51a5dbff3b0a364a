use Rattle.rv_diagnostics.specs.Diagnostics.{diagnostic_head}
use Rattle.rv_diagnostics.proofs.Written.{three_parts}
use Rattle.rv_diagnostics.proofs.diagnostics.begin_diagnostic.Goals as goal

pub returns : goal.returns
unfolding diagnostic_head
returns c =
    let all = three_parts _ _ _ _ _ _ _ c.in_ok-put_all.ensures c.in_ok-put_range.ensures c.in_ok-put_all-2.ensures in
    all
