use Rattle.std.proofs.Common.{◌++◌, ap, refl, ◌∙◌}
use Rattle.std.specs.Str.Lossy.{utf8_lossy}
use Rattle.rv_diagnostics.proofs.Written.{same_head, two_parts}
use Rattle.rv_diagnostics.specs.Diagnostics.{warning_diagnostic}
use Rattle.rv_diagnostics.proofs.diagnostics.put_warning.Goals as goal

pub returns : goal.returns
unfolding warning_diagnostic
returns c =
    let said = ap utf8_lossy (c.bytes.ensures ∙ (rw (c.new-said.ensures) at c.in_ok-push_warning_message.ensures)) in
    let head = same_head _ _ _ _ _ _ 2 _ _ _ _ c.saturating_sub.ensures c.column_at.ensures c.column_at-2.ensures refl said in
    two_parts _ _ _ _ _ (c.in_ok-begin_said.ensures ∙ ap (λ h. c.args.m.now ++ h) head) c.in_ok-end_object.ensures
