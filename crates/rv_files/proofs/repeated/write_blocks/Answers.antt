use Rattle.std.proofs.Common.{◌≡◌, ◌-◌, ◌<◌, ◌≤◌, arith, ap, length, take, ◌∙◌}
use Rattle.std.specs.Prelude.{replicate}
use Rattle.std.proofs.lemmas.Grind.{common_steps}
use Rattle.std.proofs.lemmas.List.{take-replicate}
use Rattle.std.proofs.lemmas.Result.{err_from_is_err_and}
use Rattle.rv_text.specs.Streams.{WritesPrefix}
use Rattle.rv_files.proofs.Partly.{partly_next, partly_lost}
use Rattle.rv_files.proofs.BinSteps.{partly_writes}
use Rattle.rv_files.proofs.PieceLists.{next_block}
use Rattle.rv_files.proofs.repeated.write_blocks.Goals as goal

pub returns-in_err-write_all-clause-text : goal.returns-in_err-write_all-clause-text
returns-in_err-write_all-clause-text g c =
    let p = err_from_is_err_and c.from_residual.result c.from_residual.ensures.1 in
    let size = length c.args.block.now in
    let more : size < c.writing.left = omega (arith, c.writing-test.true) in
    let block = next_block size c.writing.left c.args.byte more in
    let part = rw block at c.writing.invariant.part in
    let lost = rw c.requires.block at c.in_err-write_all.ensures.text in
    rw p.1 (partly_lost _ _ _ _ (replicate size c.args.byte) (replicate (c.writing.left - size) c.args.byte) part lost)

pub writing-preserved : goal.writing-preserved
writing-preserved g c =
    let size = length c.args.block.now in
    let more : size < c.writing.left = omega (arith, c.writing-test.true) in
    let block = next_block size c.writing.left c.args.byte more in
    let part = rw block at c.writing.invariant.part in
    let text = rw c.requires.block at c.in_ok-write_all.ensures.text in
    record {
      part = partly_next _ _ _ _ (replicate size c.args.byte) (replicate (c.writing.left - size) c.args.byte) part text;
      failures = grind (arith, common_steps, c.in_ok-write_all.ensures.count);
    }

pub returns-clause-text : goal.returns-clause-text
returns-clause-text g c =
    let size = length c.args.block.now in
    let few : c.writing.left ≤ size = omega (arith, c.writing-test.false) in
    let last : c.split_at.result.0.now ≡ replicate c.writing.left c.args.byte = c.split_at.ensures.front ∙ ap (take c.writing.left) c.requires.block ∙ take-replicate c.writing.left size c.args.byte few in
    let text = rw last at c.write_all-2.ensures.text in
    partly_writes _ _ _ _ _ _ c.writing.invariant.part text
