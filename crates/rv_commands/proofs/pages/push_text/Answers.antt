use Rattle.std.specs.List.{flat_map}
use Rattle.std.proofs.lemmas.Result.{err_from_is_err_and}
use Rattle.rv_text.specs.BlockLaws.{gathers_then, lost_first}
use Rattle.rv_commands.specs.Pages.{ended, text_of}
use Rattle.rv_commands.proofs.pages.push_text.Goals as goal

pub returns-in_err-push_numbered-clause-text : goal.returns-in_err-push_numbered-clause-text
unfolding text_of
returns-in_err-push_numbered-clause-text g c =
    let p = err_from_is_err_and c.from_residual.result c.from_residual.ensures.1 in
    let text = rw c.len.ensures.value at c.in_err-push_numbered.ensures.text in
    rw p.1 (lost_first _ _ _ _ (flat_map ended c.args.store.now.lines) text)

pub returns-clause-text : goal.returns-clause-text
unfolding text_of
returns-clause-text g c =
    let text = rw c.len.ensures.value at c.in_ok-push_numbered.ensures.text in
    gathers_then _ _ _ _ _ _ _ _ _ text c.push_lines.ensures.text
