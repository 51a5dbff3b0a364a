use Rattle.std.proofs.Common.{arith, length, set, ◌<◌, ap, ◌∙◌}
use Rattle.rv_layout.proofs.AdvanceRows.{advance_in_row, set-advance_at}
use Rattle.rv_layout.proofs.effect.advance_at.Goals as goal

pub then-requires-clause-first : goal.then-requires-clause-first
then-requires-clause-first c =
    let within : c.args.section < length c.args.advances.now = omega (arith, c.requires.within, c.told-advances) in
    advance_in_row c.args.advances.now c.args.section _ within c.requires.row

pub returns : goal.returns
returns c =
    let within : c.args.section < length c.args.advances.now = omega (arith, c.requires.within, c.told-advances) in
    ap (set c.args.advances.now c.args.section) c.then.ensures
    ∙ set-advance_at c.args.advances.now c.args.section c.args.advance _ within
