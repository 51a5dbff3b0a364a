use Rattle.std.proofs.Common.{◌≡◌}
use Rattle.std.specs.Bool.{Decides}
use Rattle.rv_program.specs.internal.Revisions.{edited_text}
use Rattle.rv_program.proofs.StayingItems.{stood-changed}
use Rattle.rv_program.proofs.renewed_line.is_changed.Goals as goal

pub returns : goal.returns
returns c =
    let r = edited_text c.args.revision.now in
    let decides : Decides c.is_same.result (c.args.item.now.code ≡ c.args.former.now.code) = c.is_same.ensures in
    stood-changed r.base r.lines r.edit c.args.line c.args.former.now c.requires.former c.line_before.result c.is_none.result
    c.line_before.ensures c.is_none.ensures c.if-is_none.false c.args.item.now.code c.requires.item.code c.is_same.result decides
