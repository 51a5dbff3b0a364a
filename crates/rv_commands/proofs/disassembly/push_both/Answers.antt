use Rattle.std.specs.List.{flat_map}
use Rattle.std.proofs.lemmas.Grind.{flat_map-append}
use Rattle.std.proofs.lemmas.Result.{err_from_is_err_and}
use Rattle.rv_text.specs.BlockLaws.{gathers_then, lost_first}
use Rattle.rv_commands.specs.Disassembly.{disassembly_row}
use Rattle.rv_commands.proofs.disassembly.push_both.Goals as goal

pub returns-in_err-push_code_rows-clause-text : goal.returns-in_err-push_code_rows-clause-text
returns-in_err-push_code_rows-clause-text g c =
    let p = err_from_is_err_and c.from_residual.result c.from_residual.ensures.1 in
    rw (p.1, flat_map-append disassembly_row c.args.first.now c.args.next.now) (lost_first _ _ _ _ (flat_map disassembly_row c.args.next.now) c.in_err-push_code_rows.ensures.text)

pub returns-clause-text : goal.returns-clause-text
returns-clause-text g c =
    rw (flat_map-append disassembly_row c.args.first.now c.args.next.now) (gathers_then _ _ _ _ _ _ _ _ _ c.in_ok-push_code_rows.ensures.text c.push_code_rows-2.ensures.text)
