use Rattle.std.proofs.Common.{◌∙◌, arith}
use Rattle.rv_store.proofs.StillTexts.{set-set_or_push, end-set_or_push}
use Rattle.rv_store.proofs.still.set_or_push.Goals as goal

pub returns-then-place-len-clause-ok : goal.returns-then-place-len-clause-ok
returns-then-place-len-clause-ok g c =
    set-set_or_push c.args.row.now.items c.args.place c.args.value (omega (arith, c.if-place-len.true, c.len.ensures, c.args.row.now.ok.0))

pub returns-clause-ok : goal.returns-clause-ok
returns-clause-ok g c =
    c.in_ok-push.ensures.items
    ∙ end-set_or_push c.args.row.now.items c.args.place c.args.value (omega (arith, c.if-place-len.false, c.len.ensures, c.requires, c.args.row.now.ok.0))
