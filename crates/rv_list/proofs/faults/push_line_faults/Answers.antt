use Rattle.std.proofs.Common.{arith}
use Rattle.std.proofs.lemmas.Grind.{common_steps}
use Rattle.std.proofs.lemmas.Result.{err_from_is_err_and}
use Rattle.rv_list.proofs.FaultRows.{lost_found, gathered_found}
use Rattle.rv_list.proofs.faults.push_line_faults.Goals as goal

pub returns-in_err-push_found-clause-text : goal.returns-in_err-push_found-clause-text
returns-in_err-push_found-clause-text g c =
    let p = err_from_is_err_and c.from_residual.result c.from_residual.ensures.1 in
    rw p.1 (lost_found _ c.faults.faults.now _ _ _ _ _ _ _ c.in-len1-up.len_at_least c.faults.invariant.half c.in_err-push_found.ensures.text)

pub faults-preserved : goal.faults-preserved
faults-preserved g c = record {
  half = gathered_found _ c.faults.faults.now _ _ _ _ _ _ _ _ c.in-len1-up.len_at_least c.faults.invariant.half c.in_ok-push_found.ensures.text;
  failures = grind (arith, common_steps, c.in_ok-push_found.ensures.count);
}
