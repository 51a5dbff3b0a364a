use Rattle.std.proofs.Common.{◌++◌, [], ◌∷◌}
use Rattle.std.proofs.lemmas.Result.{err_from_is_err_and}
use Rattle.rv_text.specs.BlockLaws.{gathers_then, lost_first, waits_lost}
use Rattle.rv_list.proofs.rows.push_row.Goals as goal

pub returns-in_err-push-clause-text : goal.returns-in_err-push-clause-text
returns-in_err-push-clause-text g c =
    let p = err_from_is_err_and c.from_residual.result c.from_residual.ensures.1 in
    rw p.1 (lost_first _ _ _ _ (c.args.text.now ++ 10 ∷ []) c.in_err-push.ensures.text)

pub returns-in_err-push_text-clause-text : goal.returns-in_err-push_text-clause-text
returns-in_err-push_text-clause-text g c =
    let p = err_from_is_err_and c.from_residual-in_err-push_text.result c.from_residual-in_err-push_text.ensures.1 in
    rw p.1 (waits_lost _ _ _ _ _ _ _ c.in_ok-push.ensures.text (lost_first _ _ _ _ (10 ∷ []) c.in_err-push_text.ensures.text))

pub returns-clause-text : goal.returns-clause-text
returns-clause-text g c =
    gathers_then _ _ _ _ _ _ _ _ _ c.in_ok-push.ensures.text (gathers_then _ _ _ _ _ _ _ _ _ c.in_ok-push_text.ensures.text c.push-2.ensures.text)
