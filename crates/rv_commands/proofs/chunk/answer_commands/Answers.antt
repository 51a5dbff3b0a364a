use Rattle.std.proofs.Common.{◌≡◌, take, drop, arith, refl}
use Rattle.std.proofs.lemmas.Result.{err_from_is_err_and}
use Rattle.std.proofs.lemmas.Grind.{common_steps}
use Rattle.rv_commands.proofs.CutLemmas.{cut_first, unbroken_before, unbroken_none}
use Rattle.rv_commands.proofs.GatherLemmas.{gathered_one, gathered_then, gathered_stops, one_stops}
use Rattle.rv_commands.proofs.chunk.answer_commands.Goals as goal

pub returns-in_err-answer_command-clause-err : goal.returns-in_err-answer_command-clause-err
returns-in_err-answer_command-clause-err g c =
    let failed = err_from_is_err_and c.from_residual.result c.from_residual.ensures.1 in
    let rest = c.commands.rest.now in
    let at = c.in-Some.at in
    let answered = rw c.split_at.ensures.front at c.in_err-answer_command.ensures.text in
    let stops = one_stops _ _ c.answer_command.new.store rest (take at rest) (drop 1 (drop at rest)) _ _ _ _ (cut_first rest at c.in-Some.ensures) (unbroken_before rest at c.in-Some.ensures) answered in
    rw (failed.1, failed.2) (gathered_stops _ _ _ _ _ _ _ _ _ _ _ c.commands.invariant.gathered stops)

pub commands-preserved : goal.commands-preserved
commands-preserved g c =
    let rest = c.commands.rest.now in
    let at = c.in-Some.at in
    let answered = rw c.split_at.ensures.front at c.in_ok-answer_command.ensures.text in
    let next : c.split_at-in-Some.result.1.now ≡ drop 1 (drop at rest) = rw (c.split_at-in-Some.ensures.back, c.split_at.ensures.back) refl in
    let one = gathered_one _ c.answer_command.new.store rest (take at rest) (drop 1 (drop at rest)) answered.0 _ _ _ _ (cut_first rest at c.in-Some.ensures) (unbroken_before rest at c.in-Some.ensures) answered.1 answered.2 in record {
      gathered = rw next (gathered_then _ _ _ _ _ _ _ _ _ _ _ _ c.commands.invariant.gathered one);
      failures = grind (arith, common_steps);
    }

pub returns-clause-unbroken : goal.returns-clause-unbroken
returns-clause-unbroken g c = unbroken_none _ c.in_default.ensures
