use Rattle.std.proofs.Common.{◌<◌, arith}
use Rattle.rv_diagnostics.proofs.Counts.{long_before, long_more}
use Rattle.rv_diagnostics.proofs.counting.count_long_lines.Goals as goal

pub loop-k-preserved : goal.loop-k-preserved
loop-k-preserved c =
    let k = c.loop-k.k in
    let some : k < 16384 = omega (arith, c.loop-k-test.true) in
    let next = c.in-Some.ensures.line in
    let here = c.long_on.ensures.value in
    record {
      all = long_more 16384 k _ _ _ _ _ _ _ some next here c.loop-k.invariant.all c.add.ensures.all;
      before = long_before c.args.at 16384 k _ _ _ _ _ _ _ some next here c.loop-k.invariant.before c.add.ensures.before;
      within = c.add.ensures.within;
      few = omega (arith, c.loop-k.invariant.few, c.add.ensures.all, c.long_on.ensures.few);
    }
