use Rattle.std.proofs.Common.{sym, subst}
use Rattle.rv_layout.specs.Effects.{AreAdvances, IsEffect}
use Rattle.rv_layout.specs.EffectLaws.{advance_at-AreAdvances}
use Rattle.rv_layout.proofs.effect.join.Goals as goal

pub both-requires-clause-first_row : goal.both-requires-clause-first_row
both-requires-clause-first_row c =
    let w = c.in-Switched-Switched in
    let one = subst IsEffect w.is-0 c.requires.first in
    let two = subst IsEffect w.is-1 c.requires.next in
    subst AreAdvances (sym c.advance_at-in-Switched-Switched.ensures) (advance_at-AreAdvances _ w.k w.row two.0 one.2)
