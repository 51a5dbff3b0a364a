use Rattle.std.proofs.lemmas.Result.{err_from_is_err_and}
use Rattle.rv_commands.proofs.EditedLemmas.{writes_then, writes_first, writes_last}
use Rattle.rv_commands.proofs.edited.write_shown.Goals as goal

pub returns-in_err-write_page-clause-text : goal.returns-in_err-write_page-clause-text
returns-in_err-write_page-clause-text g c =
    let p = err_from_is_err_and c.from_residual.result c.from_residual.ensures.1 in
    rw p.1 (writes_first _ _ _ _ c.in_err-write_page.ensures.text)

pub returns-in_err-write_page-2-clause-text : goal.returns-in_err-write_page-2-clause-text
returns-in_err-write_page-2-clause-text g c =
    let r = c.from_residual-in_err-write_page-2 in
    let p = err_from_is_err_and r.result r.ensures.1 in
    let symbols = writes_first _ _ _ _ c.in_err-write_page-2.ensures.text in
    rw p.1 (writes_last _ _ _ _ _ c.in_ok-write_page.ensures.text symbols)

pub returns-in_err-write_page-3-clause-text : goal.returns-in_err-write_page-3-clause-text
returns-in_err-write_page-3-clause-text g c =
    let r = c.from_residual-in_err-write_page-3 in
    let p = err_from_is_err_and r.result r.ensures.1 in
    let listing = writes_first _ _ _ _ c.in_err-write_page-3.ensures.text in
    let later = writes_last _ _ _ _ _ c.in_ok-write_page-2.ensures.text listing in
    rw p.1 (writes_last _ _ _ _ _ c.in_ok-write_page.ensures.text later)

pub returns-clause-text : goal.returns-clause-text
returns-clause-text g c =
    let faults = writes_then _ _ _ _ _ _ c.in_ok-write_page-3.ensures.text c.write_page-4.ensures.text in
    let listing = writes_then _ _ _ _ _ _ c.in_ok-write_page-2.ensures.text faults in
    writes_then _ _ _ _ _ _ c.in_ok-write_page.ensures.text listing
