use Rattle.std.proofs.Common.{◌≡◌, ◌++◌, take, drop, refl}
use Rattle.std.proofs.lemmas.Result.{err_from_is_err_and}
use Rattle.rv_commands.proofs.CutLemmas.{cut_joined, unbroken_none, unbroken_before, unbroken_join}
use Rattle.rv_commands.proofs.StepLemmas.{answered_none}
use Rattle.rv_commands.proofs.chunk.answer_chunk.Goals as goal

pub returns-in_err-extend_from_slice-clause-err : goal.returns-in_err-extend_from_slice-clause-err
returns-in_err-extend_from_slice-clause-err g c =
    let failed = err_from_is_err_and c.from_residual.result c.from_residual.ensures.1 in
    rw (failed.1, failed.2) (c.args.pending.now.items ++ c.args.chunk.now, c.args.store.now, answered_none _ _ _)

pub returns-in_default-clause-unbroken : goal.returns-in_default-clause-unbroken
returns-in_default-clause-unbroken g c =
    rw c.in_ok-extend_from_slice.ensures.items (unbroken_join c.args.pending.now.items c.args.chunk.now c.requires.unbroken (unbroken_none c.args.chunk.now c.in_default.ensures))

pub returns-in_err-extend_from_slice-2-clause-err : goal.returns-in_err-extend_from_slice-2-clause-err
returns-in_err-extend_from_slice-2-clause-err g c =
    let failed = err_from_is_err_and c.from_residual-in_err-extend_from_slice-2.result c.from_residual-in_err-extend_from_slice-2.ensures.1 in
    rw (failed.1, failed.2) (c.args.pending.now.items ++ c.args.chunk.now, c.args.store.now, answered_none _ _ _)

pub returns-in_err-rest-clause-err : goal.returns-in_err-rest-clause-err
returns-in_err-rest-clause-err g c =
    let pending = c.args.pending.now.items in
    let chunk = c.args.chunk.now in
    let at = c.in-Some.at in
    let command : c.as_slice.result.now ≡ pending ++ take at chunk = rw (c.as_slice.ensures.value, c.in_ok-extend_from_slice-2.ensures.items, c.split_at.ensures.front) refl in
    let next : c.split_at-2.result.1.now ≡ drop 1 (drop at chunk) = rw (c.split_at-2.ensures.back, c.split_at.ensures.back) refl in
    let failed = err_from_is_err_and c.from_residual-in_err-rest.result c.from_residual-in_err-rest.ensures.1 in
    rw (failed.1, failed.2, cut_joined pending chunk _ _ at c.in-Some.ensures command next) c.in_err-rest.ensures.err

pub returns-in_err-extend_from_slice-3-clause-err : goal.returns-in_err-extend_from_slice-3-clause-err
returns-in_err-extend_from_slice-3-clause-err g c =
    let failed = err_from_is_err_and c.from_residual-in_err-extend_from_slice-3.result c.from_residual-in_err-extend_from_slice-3.ensures.1 in
    let pending = c.args.pending.now.items in
    let chunk = c.args.chunk.now in
    let at = c.in-Some.at in
    let command : c.as_slice.result.now ≡ pending ++ take at chunk = rw (c.as_slice.ensures.value, c.in_ok-extend_from_slice-2.ensures.items, c.split_at.ensures.front) refl in
    let next : c.split_at-2.result.1.now ≡ drop 1 (drop at chunk) = rw (c.split_at-2.ensures.back, c.split_at.ensures.back) refl in
    rw (failed.1, failed.2, cut_joined pending chunk _ _ at c.in-Some.ensures command next) (c.in_ok-rest.rest.now, c.answer_all.new.store, c.in_ok-rest.ensures.ok)

pub returns-clause-ok : goal.returns-clause-ok
returns-clause-ok g c =
    let pending = c.args.pending.now.items in
    let chunk = c.args.chunk.now in
    let at = c.in-Some.at in
    let command : c.as_slice.result.now ≡ pending ++ take at chunk = rw (c.as_slice.ensures.value, c.in_ok-extend_from_slice-2.ensures.items, c.split_at.ensures.front) refl in
    let next : c.split_at-2.result.1.now ≡ drop 1 (drop at chunk) = rw (c.split_at-2.ensures.back, c.split_at.ensures.back) refl in
    rw (c.in_ok-extend_from_slice-3.ensures.items, c.clear.ensures.items, cut_joined pending chunk _ _ at c.in-Some.ensures command next) c.in_ok-rest.ensures.ok

pub answer_all-requires-clause-unbroken : goal.answer_all-requires-clause-unbroken
answer_all-requires-clause-unbroken g c =
    let pending = c.args.pending.now.items in
    let chunk = c.args.chunk.now in
    let at = c.in-Some.at in
    rw (c.as_slice.ensures.value, c.in_ok-extend_from_slice-2.ensures.items, c.split_at.ensures.front) (unbroken_join pending (take at chunk) c.requires.unbroken (unbroken_before chunk at c.in-Some.ensures))
