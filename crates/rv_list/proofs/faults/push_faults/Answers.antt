use Rattle.std.proofs.Common.{sym}
use Rattle.std.proofs.lemmas.Result.{err_from_is_err_and}
use Rattle.rv_list.specs.Faults.{fault_rows, fault_text}
use Rattle.rv_list.proofs.Counted.{lost_count, gathers_counted}
use Rattle.rv_list.proofs.faults.push_faults.Goals as goal

pub returns-in_err-push_count-clause-text : goal.returns-in_err-push_count-clause-text
unfolding fault_text
returns-in_err-push_count-clause-text g c =
    let p = err_from_is_err_and c.from_residual.result c.from_residual.ensures.1 in
    let rows = fault_rows (g.V.View.shown c.args.view.now) in
    rw p.1 (lost_count _ rows _ _ _ _ (sym c.count_faults-count.ensures.value) c.in_err-push_count.ensures.text)

pub returns-clause-text : goal.returns-clause-text
unfolding fault_text
returns-clause-text g c =
    let rows = fault_rows (g.V.View.shown c.args.view.now) in
    gathers_counted _ rows _ _ _ _ _ _ _ _ (sym c.count_faults-count.ensures.value) c.in_ok-push_count.ensures.text c.push_fault_rows.ensures.text
