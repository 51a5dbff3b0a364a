use Rattle.rv_diagnostics.proofs.Written.{two_parts}
use Rattle.rv_diagnostics.proofs.publishing.put_publication.Goals as goal

pub returns : goal.returns
returns g c =
    let all = two_parts _ _ _ _ _ c.in_ok-begin_diagnostics.ensures c.in_ok-put_nearest.ensures in
    all
