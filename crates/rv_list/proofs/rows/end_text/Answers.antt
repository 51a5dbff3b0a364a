use Rattle.std.proofs.lemmas.Result.{err_from_is_err_and}
use Rattle.rv_text.specs.BlockLaws.{waits_end, waits_end_lost}
use Rattle.rv_list.proofs.rows.end_text.Goals as goal

pub returns-in_err-flush-clause-text : goal.returns-in_err-flush-clause-text
returns-in_err-flush-clause-text g c =
    let p = err_from_is_err_and c.from_residual-in_err-flush.result c.from_residual-in_err-flush.ensures.1 in
    λ taken text gathered. rw p.1 (waits_end_lost _ _ _ _ _ (rw c.in_ok-pushed.was at gathered) c.in_err-flush.ensures.text)

pub returns-clause-text : goal.returns-clause-text
returns-clause-text g c =
    λ taken text gathered. waits_end _ _ _ _ _ (rw c.in_ok-pushed.was at gathered) c.in_ok-flush.ensures.text
