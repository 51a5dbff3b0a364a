use Rattle.std.proofs.Common.{arith}
use Rattle.std.proofs.lemmas.Grind.{common_steps}
use Rattle.std.proofs.lemmas.Result.{err_from_is_err_and}
use Rattle.rv_files.proofs.Partly.{partly_next, partly_lost}
use Rattle.rv_files.proofs.BinSteps.{next_bin}
use Rattle.rv_files.proofs.bin.write_bin.Goals as goal

pub returns-in_err-at-clause-text : goal.returns-in_err-at-clause-text
returns-in_err-at-clause-text g c =
    let p = err_from_is_err_and c.from_residual.result c.from_residual.ensures.1 in
    let part = rw (next_bin c.segments.at c.segments.segments.now c.segment-item.result c.in-len1-up.len_at_least c.segment-item.is) at c.segments.invariant.part in
    rw p.1 (partly_lost _ _ _ _ _ _ part c.in_err-at.ensures.text)

pub segments-preserved : goal.segments-preserved
segments-preserved g c =
    let part = rw (next_bin c.segments.at c.segments.segments.now c.segment-item.result c.in-len1-up.len_at_least c.segment-item.is) at c.segments.invariant.part in
    record {
      part = rw c.in_ok-at.ensures.end (partly_next _ _ _ _ _ _ part c.in_ok-at.ensures.text);
      failures = grind (arith, common_steps, c.in_ok-at.ensures.count);
    }
