use Rattle.std.proofs.Common.{◌++◌, ap, refl, ◌∙◌}
use Rattle.rv_diagnostics.proofs.Written.{same_head, three_parts}
use Rattle.rv_diagnostics.proofs.diagnostics.put_said.Goals as goal

pub returns : goal.returns
returns c =
    let head = same_head _ _ _ _ _ _ 1 _ _ _ _ c.saturating_sub.ensures c.column_at.ensures c.column_at-2.ensures c.fault_name-code.ensures.name refl in
    three_parts _ _ _ _ _ _ _ (c.in_ok-begin_said.ensures ∙ ap (λ h. c.args.m.now ++ h) head) c.in_ok-put_related.ensures c.in_ok-end_object.ensures
