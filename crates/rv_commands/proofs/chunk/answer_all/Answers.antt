use Rattle.std.proofs.lemmas.Result.{err_from_is_err_and}
use Rattle.rv_commands.proofs.GatherLemmas.{gathered_end, gathered_end_lost, loses_stops}
use Rattle.rv_commands.proofs.chunk.answer_all.Goals as goal

pub returns-in_err-flush-in-Ok-clause-err : goal.returns-in_err-flush-in-Ok-clause-err
returns-in_err-flush-in-Ok-clause-err g c =
    let failed = err_from_is_err_and c.from_residual.result c.from_residual.ensures.1 in
    let gathered = rw c.new-block.ensures at c.in-Ok.ensures.ok in
    rw (failed.1, failed.2) (gathered_end_lost _ _ _ _ _ _ _ _ gathered c.in_err-flush-in-Ok.ensures.text)

pub returns-in_ok-flush-in-Ok-clause-ok : goal.returns-in_ok-flush-in-Ok-clause-ok
returns-in_ok-flush-in-Ok-clause-ok g c =
    let gathered = rw c.new-block.ensures at c.in-Ok.ensures.ok in
    gathered_end _ _ _ _ _ _ _ _ gathered c.in_ok-flush-in-Ok.ensures.text

pub returns-in_err-flush-in-Err-Memory-clause-err : goal.returns-in_err-flush-in-Err-Memory-clause-err
returns-in_err-flush-in-Err-Memory-clause-err g c =
    let failed = err_from_is_err_and c.from_residual-in_err-flush-in-Err-Memory.result c.from_residual-in_err-flush-in-Err-Memory.ensures.1 in
    let stops = rw (c.in-Err-Memory.field-0-is, c.new-block.ensures) at c.in-Err-Memory.ensures.err in
    rw (failed.1, failed.2) (gathered_end_lost _ _ _ _ _ _ _ _ stops.2 c.in_err-flush-in-Err-Memory.ensures.text)

pub returns-in_ok-flush-in-Err-Memory-clause-err : goal.returns-in_ok-flush-in-Err-Memory-clause-err
returns-in_ok-flush-in-Err-Memory-clause-err g c =
    let stops = rw (c.in-Err-Memory.field-0-is, c.new-block.ensures) at c.in-Err-Memory.ensures.err in
    (stops.0, stops.1, gathered_end _ _ _ _ _ _ _ _ stops.2 c.in_ok-flush-in-Err-Memory.ensures.text)

pub returns-in-Err-Write-clause-err : goal.returns-in-Err-Write-clause-err
returns-in-Err-Write-clause-err g c =
    let stops = rw (c.in-Err-Write.field-0-is, c.new-block.ensures) at c.in-Err-Write.ensures.err in
    loses_stops _ _ _ _ stops
