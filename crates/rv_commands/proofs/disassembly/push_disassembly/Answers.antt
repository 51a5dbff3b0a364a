use Rattle.std.specs.Prelude.{◌++◌}
use Rattle.std.specs.List.{flat_map}
use Rattle.std.proofs.lemmas.List.{length-append}
use Rattle.std.proofs.lemmas.Result.{err_from_is_err_and}
use Rattle.rv_text.specs.BlockLaws.{gathers_then, lost_first}
use Rattle.rv_commands.specs.Disassembly.{disassembly_row, disassembly_text}
use Rattle.rv_commands.proofs.disassembly.push_disassembly.Goals as goal

pub returns-in_err-push_numbered-clause-text : goal.returns-in_err-push_numbered-clause-text
unfolding disassembly_text
returns-in_err-push_numbered-clause-text g c =
    let p = err_from_is_err_and c.from_residual.result c.from_residual.ensures.1 in
    rw (p.1, length-append c.args.first.now c.args.next.now) (lost_first _ _ _ _ (flat_map disassembly_row (c.args.first.now ++ c.args.next.now)) c.in_err-push_numbered.ensures.text)

pub returns-clause-text : goal.returns-clause-text
unfolding disassembly_text
returns-clause-text g c =
    rw (length-append c.args.first.now c.args.next.now) (gathers_then _ _ _ _ _ _ _ _ _ c.in_ok-push_numbered.ensures.text c.push_both.ensures.text)
