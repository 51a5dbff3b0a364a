use Rattle.std.proofs.Common.{◌≡◌, ◌-◌, ◌<◌, ap, ◌∙◌, arith}
use Rattle.rv_diagnostics.specs.Published.{are_lines}
use Rattle.rv_diagnostics.proofs.Counts.{dropped_all, dropped_one}
use Rattle.rv_diagnostics.proofs.counting.has_too_many_lines.Goals as goal

pub loop-preserved : goal.loop-preserved
loop-preserved c =
    let some : c.loop.counter < 16384 = omega (arith, c.loop-test.true) in
    dropped_one 16384 c.loop.counter _ _ _ _ some c.in-Some.ensures.line c.loop.invariant

pub returns : goal.returns
returns c =
    let none : 16384 - c.loop.counter ≡ 0 = omega (arith, c.loop-test.false) in
    c.are_lines.ensures ∙ ap are_lines (dropped_all (16384 - c.loop.counter) c.loop.lines _ none c.loop.invariant)
