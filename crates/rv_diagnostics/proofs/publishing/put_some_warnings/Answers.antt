use Rattle.std.proofs.Common.{◌≡◌, arith}
use Rattle.rv_diagnostics.specs.Published.{warning_count}
use Rattle.rv_diagnostics.proofs.Publications.{no_warnings}
use Rattle.rv_diagnostics.proofs.publishing.put_some_warnings.Goals as goal

pub returns-then-count-eq0 : goal.returns-then-count-eq0
returns-then-count-eq0 g c =
    let shown = g.T.View.shown c.args.told.now in
    let none : warning_count shown ≡ 0 = omega (arith, c.requires, c.if-count-eq0.true) in
    no_warnings c.args.context.now.encoding shown c.args.window.now c.args.m.now none
