use Rattle.rv_diagnostics.proofs.Written.{two_parts}
use Rattle.rv_diagnostics.proofs.diagnostics.put_diagnostic.Goals as goal

pub returns : goal.returns
returns c =
    let all = two_parts _ _ _ _ _ c.in_ok-begin_diagnostic.ensures c.in_ok-end_object.ensures in
    all
