use Rattle.std.proofs.Common.{arith}
use Rattle.std.proofs.lemmas.Grind.{common_steps}
use Rattle.std.proofs.lemmas.Result.{err_from_is_err_and}
use Rattle.rv_commands.specs.Disassembly.{disassembly_row}
use Rattle.rv_commands.proofs.ItemTexts.{item_gathered, item_lost}
use Rattle.rv_commands.proofs.disassembly.push_code_rows.Goals as goal

pub returns-in_err-push_code_row-clause-text : goal.returns-in_err-push_code_row-clause-text
returns-in_err-push_code_row-clause-text g c =
    let p = err_from_is_err_and c.from_residual.result c.from_residual.ensures.1 in
    rw p.1 (item_lost disassembly_row c.args.rows.now c.loop-row.row-index c.row-item.result c.loop-row-test.true c.row-item.is _ _ _ _ _ c.loop-row.invariant.waits c.in_err-push_code_row.ensures.text)

pub loop-row-preserved : goal.loop-row-preserved
loop-row-preserved g c = record {
  waits = item_gathered disassembly_row c.args.rows.now c.loop-row.row-index c.row-item.result c.loop-row-test.true c.row-item.is _ _ _ _ _ _ c.loop-row.invariant.waits c.in_ok-push_code_row.ensures.text;
  failures = grind (arith, common_steps, c.in_ok-push_code_row.ensures.count);
}
