use Rattle.std.proofs.Common.{◌≡◌, ◌+◌, refl, ap, ◌∙◌, arith}
use Rattle.std.proofs.lemmas.Result.{err_from_is_err_and}
use Rattle.std.proofs.lemmas.Grind.{common_steps}
use Rattle.rv_commands.proofs.OutcomeLemmas.{progress_begin, progress_more, ends_by_failure, ends_beyond, ends_in_chunk, ends_well, ends_in_last}
use Rattle.rv_commands.proofs.running.answer_input.Goals as goal

pub returns-in_default-clause-err : goal.returns-in_default-clause-err
returns-in_default-clause-err g c =
    let failures = c.in_default.ensures.count ∙ ap (λ n. n + 1) c.reading.invariant.reads in
    ends_by_failure _ _ _ _ _ _ _ _ _ _ _ c.reading.invariant.few c.reading.invariant.progress c.in_default.ensures.failed failures

pub returns-in_err-finish-clause-err : goal.returns-in_err-finish-clause-err
returns-in_err-finish-clause-err g c =
    let failed = err_from_is_err_and c.from_residual.result c.from_residual.ensures.1 in
    rw (failed.1, failed.2) (ends_in_last _ _ _ _ _ _ _ _ _ _ _ _ _ _ _ _ _ c.as_slice.ensures.value c.if-n-eq0.true c.reading.invariant.few c.reading.invariant.progress c.in-Ok.ensures.ok c.in_err-finish.ensures.text)

pub returns-then-n-eq0-clause-ok : goal.returns-then-n-eq0-clause-ok
returns-then-n-eq0-clause-ok g c =
    ends_well _ _ _ _ _ _ _ _ _ _ _ _ _ _ c.as_slice.ensures.value c.if-n-eq0.true c.reading.invariant.few c.reading.invariant.progress c.in-Ok.ensures.ok c.in_ok-finish.ensures.text

pub returns-in_err-answer_chunk-clause-err : goal.returns-in_err-answer_chunk-clause-err
returns-in_err-answer_chunk-clause-err g c =
    let failed = err_from_is_err_and c.from_residual-in_err-answer_chunk.result c.from_residual-in_err-answer_chunk.ensures.1 in
    rw (failed.1, failed.2) (ends_in_chunk _ _ _ _ _ _ _ _ _ _ _ _ _ _ _ _ c.split_at.ensures.front c.reading.invariant.few c.reading.invariant.progress c.in-Ok.ensures.ok c.in_err-answer_chunk.ensures.err)

pub reading-preserved : goal.reading-preserved
reading-preserved g c = record {
  progress = progress_more _ _ _ _ _ _ _ _ _ _ _ _ _ _ _ _ c.split_at.ensures.front c.reading.invariant.progress c.in-Ok.ensures.ok c.in_ok-answer_chunk.ensures.ok c.in_ok-answer_chunk.ensures.unbroken;
  few = omega (arith, c.in-Ok.ensures.ok.few);
  reads = grind (arith, common_steps, c.in-Ok.ensures.count);
  writes = grind (arith, common_steps, c.in_ok-answer_chunk.ensures.count);
}

pub returns-in_default-read_chunk-clause-err : goal.returns-in_default-read_chunk-clause-err
returns-in_default-read_chunk-clause-err g c =
    let failures = c.in_default-read_chunk.ensures.count ∙ ap (λ n. n + 1) c.reading.invariant.reads in
    ends_by_failure _ _ _ _ _ _ _ _ _ _ _ c.reading.invariant.few c.reading.invariant.progress c.in_default-read_chunk.ensures.failed failures

pub returns-then-beyond-gt0-clause-err : goal.returns-then-beyond-gt0-clause-err
returns-then-beyond-gt0-clause-err g c =
    let all : c.reading.total ≡ 67108864 = omega (arith, c.reading.invariant.few) in
    let failures = c.in-Ok-read_chunk.ensures.count ∙ c.reading.invariant.reads in
    ends_beyond _ _ _ _ _ _ _ _ _ _ _ _ _ all c.if-beyond-gt0.true failures c.reading.invariant.progress c.in-Ok-read_chunk.ensures.ok

pub returns-in_err-finish-2-clause-err : goal.returns-in_err-finish-2-clause-err
returns-in_err-finish-2-clause-err g c =
    let none : c.in-Ok-read_chunk.beyond ≡ 0 = omega arith in
    let failed = err_from_is_err_and c.from_residual-in_err-finish-2.result c.from_residual-in_err-finish-2.ensures.1 in
    rw (failed.1, failed.2) (ends_in_last _ _ _ _ _ _ _ _ _ _ _ _ _ _ _ _ _ c.as_slice-2.ensures.value none c.reading.invariant.few c.reading.invariant.progress c.in-Ok-read_chunk.ensures.ok c.in_err-finish-2.ensures.text)

pub returns-clause-ok : goal.returns-clause-ok
returns-clause-ok g c =
    let none : c.in-Ok-read_chunk.beyond ≡ 0 = omega arith in
    ends_well _ _ _ _ _ _ _ _ _ _ _ _ _ _ c.as_slice-2.ensures.value none c.reading.invariant.few c.reading.invariant.progress c.in-Ok-read_chunk.ensures.ok c.in_ok-finish-2.ensures.text

pub reading-init : goal.reading-init
reading-init g c = record {
  progress = rw c.new-pending.ensures.items (progress_begin c.args.store.now (g.R.Source.left c.args.source.now) (g.W.Sink.taken c.args.sink.now) c.requires.empty);
  few = omega arith;
  reads = refl;
  writes = refl;
}
