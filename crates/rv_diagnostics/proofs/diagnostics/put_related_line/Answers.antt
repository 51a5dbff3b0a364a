use Rattle.rv_diagnostics.specs.Diagnostics.{related_line}
use Rattle.rv_diagnostics.proofs.Written.{three_parts}
use Rattle.rv_diagnostics.proofs.diagnostics.put_related_line.Goals as goal

pub returns : goal.returns
unfolding related_line
returns c =
    let line = rw c.saturating_sub.ensures at c.in_ok-put_range.ensures in
    let from = rw c.column_at-from.ensures at line in
    let place = rw c.column_at-to.ensures at from in
    let all = three_parts _ _ _ _ _ _ _ c.in_ok-put_all.ensures place c.in_ok-put_all-2.ensures in
    all
