use Rattle.rv_diagnostics.specs.Published.{publication_head}
use Rattle.rv_diagnostics.proofs.Written.{three_parts}
use Rattle.rv_diagnostics.proofs.publishing.begin_diagnostics.Goals as goal

pub returns : goal.returns
unfolding publication_head
returns c =
    let all = three_parts _ _ _ _ _ _ _ c.in_ok-put_all.ensures c.in_ok-put_version.ensures c.in_ok-put_all-2.ensures in
    all
