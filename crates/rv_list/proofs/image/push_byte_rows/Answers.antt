use Rattle.std.proofs.Common.{◌≡◌, ◌<◌, length, arith}
use Rattle.std.proofs.lemmas.Bool.Decides.{nat_tests}
use Rattle.std.proofs.lemmas.Grind.{common_steps}
use Rattle.std.proofs.lemmas.Result.{err_from_is_err_and}
use Rattle.rv_list.proofs.ByteRows.{gathered_lost, gathered_more, gathered_all}
use Rattle.rv_list.proofs.image.push_byte_rows.Goals as goal

pub returns-in_err-push_byte_row-clause-text : goal.returns-in_err-push_byte_row-clause-text
returns-in_err-push_byte_row-clause-text g c =
    let p = err_from_is_err_and c.from_residual.result c.from_residual.ensures.1 in
    let some : 0 < length c.rows.row.items = grind (arith, nat_tests, c.is_empty.ensures, c.rows-test.true) in
    let text = rw c.as_slice.ensures.value at c.in_err-push_byte_row.ensures.text in
    rw p.1 (gathered_lost _ _ _ _ _ _ _ _ _ _ c.rows.invariant.gathered some text)

pub rows-preserved : goal.rows-preserved
rows-preserved g c =
    let some : 0 < length c.rows.row.items = grind (arith, nat_tests, c.is_empty.ensures, c.rows-test.true) in
    let text = rw c.as_slice.ensures.value at c.in_ok-push_byte_row.ensures.text in
    record {
      gathered = gathered_more _ _ _ _ _ _ _ _ _ _ _ _ _ c.rows.invariant.gathered some text c.next_row-row-in-rows.ensures.row c.next_row-row-in-rows.ensures.rest;
      failures = grind (arith, common_steps, c.in_ok-push_byte_row.ensures.count);
    }

pub returns-clause-text : goal.returns-clause-text
returns-clause-text g c =
    let none : length c.rows.row.items ≡ 0 = grind (arith, nat_tests, c.is_empty.ensures, c.rows-test.false) in
    gathered_all _ _ _ _ _ _ _ _ _ c.rows.invariant.gathered none
