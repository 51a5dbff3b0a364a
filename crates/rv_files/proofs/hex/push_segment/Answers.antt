use Rattle.std.proofs.Common.{◌≡◌, ◌/◌, ◌<◌, take, drop, arith, ◌∙◌}
use Rattle.std.proofs.lemmas.Grind.{common_steps}
use Rattle.std.proofs.lemmas.Result.{err_from_is_err_and}
use Rattle.rv_files.specs.Hex.{upper_of}
use Rattle.rv_text.specs.Halfway.{halfway_next, halfway_lost}
use Rattle.rv_files.proofs.HexRows.{next_rows, next_stretch}
use Rattle.rv_files.proofs.hex.push_segment.Goals as goal

pub returns-in_err-push_stretch-clause-text : goal.returns-in_err-push_stretch-clause-text
returns-in_err-push_stretch-clause-text g c =
    let p = err_from_is_err_and c.from_residual.result c.from_residual.ensures.1 in
    let row : c.as_slice.result.now ≡ take 16 c.stretches.left = c.as_slice.ensures.value ∙ c.next_row-stretch.ensures.row in
    let text = rw row at c.in_err-push_stretch.ensures.text in
    let next = next_rows c.stretches.upper c.stretches.address c.stretches.left c.stretches.rows c.stretches-test.true in
    let half = rw next at c.stretches.invariant.half in
    rw p.1 (halfway_lost _ _ _ _ _ _ _ _ half text)

pub stretches-preserved : goal.stretches-preserved
stretches-preserved g c =
    let left = c.stretches.left in
    let address = c.stretches.address in
    let some = c.stretches-test.true in
    let row : c.as_slice.result.now ≡ take 16 left = c.as_slice.ensures.value ∙ c.next_row-stretch.ensures.row in
    let rest = c.next_row-stretch.ensures.rest in
    let upper : address / 65536 ≡ upper_of address = omega (arith, c.stretches.auto.address-fits) in
    let text = rw row at c.in_ok-push_stretch.ensures.text in
    let rows = next_rows c.stretches.upper address left c.stretches.rows some in
    let stretch = next_stretch address left c.stretches.rows some in
    let half = rw rows at c.stretches.invariant.half in
    let after = rw stretch at c.stretches.invariant.upper in
    record {
      half = rw (rest, upper) (halfway_next _ _ _ _ _ _ _ _ _ half text);
      upper = rw (rest, upper) after;
      failures = grind (arith, common_steps, c.in_ok-push_stretch.ensures.count);
    }
