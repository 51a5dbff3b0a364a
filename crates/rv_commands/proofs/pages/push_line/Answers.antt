use Rattle.std.proofs.Common.{[], ◌∷◌}
use Rattle.std.proofs.lemmas.Result.{err_from_is_err_and}
use Rattle.rv_text.specs.BlockLaws.{gathers_then, lost_first}
use Rattle.rv_commands.proofs.pages.push_line.Goals as goal

pub returns-in_err-push-clause-text : goal.returns-in_err-push-clause-text
returns-in_err-push-clause-text g c =
    let p = err_from_is_err_and c.from_residual.result c.from_residual.ensures.1 in
    rw p.1 (lost_first _ _ _ _ (10 ∷ []) c.in_err-push.ensures.text)

pub returns-clause-text : goal.returns-clause-text
returns-clause-text g c = gathers_then _ _ _ _ _ _ _ _ _ c.in_ok-push.ensures.text c.push-2.ensures.text
