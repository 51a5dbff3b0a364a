use Rattle.std.proofs.lemmas.Result.{err_from_is_err_and}
use Rattle.rv_text.specs.BlockLaws.{waits_end, waits_end_lost}
use Rattle.rv_commands.proofs.AnswerLemmas.{loses_alone}
use Rattle.rv_commands.proofs.answer.answer_alone.Goals as goal

pub returns-in_err-answer_command-clause-text : goal.returns-in_err-answer_command-clause-text
returns-in_err-answer_command-clause-text g c =
    let failed = err_from_is_err_and c.from_residual.result c.from_residual.ensures.1 in
    let answered = rw c.new-block.ensures at c.in_err-answer_command.ensures.text in
    rw (failed.1, failed.2) (loses_alone _ _ _ _ _ answered)

pub returns-in_err-flush-clause-text : goal.returns-in_err-flush-clause-text
returns-in_err-flush-clause-text g c =
    let failed = err_from_is_err_and c.from_residual-in_err-flush.result c.from_residual-in_err-flush.ensures.1 in
    let answered = rw c.new-block.ensures at c.in_ok-answer_command.ensures.text in
    rw (failed.1, failed.2) (answered.0, answered.1, waits_end_lost _ _ _ _ _ answered.2 c.in_err-flush.ensures.text)

pub returns-clause-text : goal.returns-clause-text
returns-clause-text g c =
    let answered = rw c.new-block.ensures at c.in_ok-answer_command.ensures.text in
    (answered.0, answered.1, waits_end _ _ _ _ _ answered.2 c.in_ok-flush.ensures.text)
