use Rattle.std.proofs.Common.{◌≡◌, ◌-◌, ◌<◌, arith}
use Rattle.rv_diagnostics.proofs.ShownRows.{long_end, long_written}
use Rattle.rv_diagnostics.proofs.publishing.put_long_lines.Goals as goal

pub loop-k-preserved : goal.loop-k-preserved
loop-k-preserved c =
    let some : c.loop-k.k < 16384 = omega (arith, c.loop-k-test.true) in
    long_written c.args.context.now.encoding 16384 c.loop-k.k _ _ _ _ _ _ _ _ some c.in-Some.ensures.line c.in_ok-put_if_long.ensures.said c.in_ok-put_if_long.ensures.passed c.loop-k.invariant

pub returns : goal.returns
returns c =
    let none : 16384 - c.loop-k.k ≡ 0 = omega (arith, c.loop-k-test.false) in
    long_end c.args.context.now.encoding (16384 - c.loop-k.k) c.loop-k.k c.loop-k.window c.loop-k.lines _ _ none c.loop-k.invariant
