use Rattle.std.proofs.Common.{refl}
use Rattle.std.proofs.lemmas.Result.{err_from_is_err_and, IfOk-weaker, IfErr-weaker}
use Rattle.rv_commands.proofs.GatherLemmas.{gathered_one, gathered_then, gathered_stops, one_stops}
use Rattle.rv_commands.proofs.chunk.gather_all.Goals as goal

pub returns-in_err-answer_command-clause-err : goal.returns-in_err-answer_command-clause-err
returns-in_err-answer_command-clause-err g c =
    let failed = err_from_is_err_and c.from_residual.result c.from_residual.ensures.1 in
    rw (failed.1, failed.2) (one_stops _ _ c.answer_command.new.store _ c.args.first.now c.args.bytes.now _ _ _ _ refl c.requires.unbroken c.in_err-answer_command.ensures.text)

pub returns-clause-ok : goal.returns-clause-ok
returns-clause-ok g c =
    let answered = c.in_ok-answer_command.ensures.text in
    let first = gathered_one _ c.answer_command.new.store _ c.args.first.now c.args.bytes.now answered.0 _ _ _ _ refl c.requires.unbroken answered.1 answered.2 in
    IfOk-weaker c.answer_commands.result _ _ (λ rest more. gathered_then _ _ _ _ _ _ _ _ _ _ _ _ first more) c.answer_commands.ensures.ok

pub returns-clause-err : goal.returns-clause-err
returns-clause-err g c =
    let answered = c.in_ok-answer_command.ensures.text in
    let first = gathered_one _ c.answer_command.new.store _ c.args.first.now c.args.bytes.now answered.0 _ _ _ _ refl c.requires.unbroken answered.1 answered.2 in
    IfErr-weaker c.answer_commands.result _ _ (λ e stops. gathered_stops e _ _ _ _ _ _ _ _ _ _ first stops) c.answer_commands.ensures.err
