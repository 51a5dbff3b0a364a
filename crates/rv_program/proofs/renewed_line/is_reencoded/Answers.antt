use Rattle.std.proofs.Common.{◌≡◌, not, ◌||◌, ap, sym, ◌∙◌}
use Rattle.std.specs.Bool.{Decides}
use Rattle.rv_program.specs.Sameness.{same_shape}
use Rattle.rv_program.specs.internal.Revisions.{edited_text, reencodes}
use Rattle.rv_program.proofs.StayingItems.{stood-reencoded}
use Rattle.rv_program.proofs.renewed_line.is_reencoded.Goals.{After-is_same}
use Rattle.rv_program.proofs.renewed_line.is_reencoded.Goals as goal

stood : (c : After-is_same) → (not c.is_same.result || not (same_shape c.args.shape c.args.former.now.shape)) ≡ reencodes (edited_text c.args.revision.now) c.args.line
stood c =
    let r = edited_text c.args.revision.now in
    let decides : Decides c.is_same.result (c.args.values.now ≡ c.args.former.now.values) = c.is_same.ensures in
    stood-reencoded r.base r.lines r.edit c.args.line c.args.former.now c.requires.former c.line_before.result c.is_none.result
    c.line_before.ensures c.is_none.ensures c.if-is_none.false c.args.values.now c.args.shape c.requires.values c.requires.shape c.is_same.result decides

pub returns-then-not-is_same : goal.returns-then-not-is_same
returns-then-not-is_same c =
    ap not c.if-not-is_same.true ∙ sym (ap (λ b. not b || not (same_shape c.args.shape c.args.former.now.shape)) c.if-not-is_same.true) ∙ stood (goal.at.returns-then-not-is_same c).After-is_same

pub returns-else-not-is_same : goal.returns-else-not-is_same
returns-else-not-is_same c =
    c.ne.ensures ∙ sym (ap (λ b. not b || not (same_shape c.args.shape c.args.former.now.shape)) c.if-not-is_same.false) ∙ stood (goal.at.returns-else-not-is_same c).After-is_same
