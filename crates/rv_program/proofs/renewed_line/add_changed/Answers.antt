use Rattle.std.proofs.Common.{◌-◌, sym, subst, ◌∙◌, arith}
use Rattle.rv_program.specs.internal.Renewals.{AreListed}
use Rattle.rv_program.specs.internal.Revisions.{edited_text}
use Rattle.rv_program.proofs.ListedLines.{one_listed, none_listed}
use Rattle.rv_program.proofs.renewed_line.add_changed.Goals as goal

pub returns-in_ok-push : goal.returns-in_ok-push
returns-in_ok-push c =
    let line = c.args.line in
    let old = c.args.changed.now.items in
    subst (AreListed (edited_text c.args.revision.now) (line - 1) line old) (sym c.in_ok-push.ensures.items)
    (one_listed (edited_text c.args.revision.now) (line - 1) line old (omega (arith, c.requires.first)) (sym c.is_changed.ensures ∙ c.if-is_changed.true))

pub returns-else-is_changed : goal.returns-else-is_changed
returns-else-is_changed c =
    none_listed (edited_text c.args.revision.now) (c.args.line - 1) c.args.line c.args.changed.now.items (omega (arith, c.requires.first)) (sym c.is_changed.ensures ∙ c.if-is_changed.false)
