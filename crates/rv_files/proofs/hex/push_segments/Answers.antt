use Rattle.std.proofs.Common.{arith}
use Rattle.std.proofs.lemmas.Grind.{common_steps}
use Rattle.std.proofs.lemmas.Result.{err_from_is_err_and}
use Rattle.rv_text.specs.Halfway.{halfway_next, halfway_lost}
use Rattle.rv_files.proofs.HexRows.{next_segment}
use Rattle.rv_files.proofs.hex.push_segments.Goals as goal

pub returns-in_err-upper-clause-text : goal.returns-in_err-upper-clause-text
returns-in_err-upper-clause-text g c =
    let p = err_from_is_err_and c.from_residual.result c.from_residual.ensures.1 in
    let half = rw (next_segment c.segments.upper c.segments.segments.now c.segment-item.result c.in-len1-up.len_at_least c.segment-item.is) at c.segments.invariant.half in
    rw p.1 (halfway_lost _ _ _ _ _ _ _ _ half c.in_err-upper.ensures.text)

pub segments-preserved : goal.segments-preserved
segments-preserved g c =
    let half = rw (next_segment c.segments.upper c.segments.segments.now c.segment-item.result c.in-len1-up.len_at_least c.segment-item.is) at c.segments.invariant.half in
    record {
      half = rw c.in_ok-upper.ensures.upper (halfway_next _ _ _ _ _ _ _ _ _ half c.in_ok-upper.ensures.text);
      failures = grind (arith, common_steps, c.in_ok-upper.ensures.count);
    }
