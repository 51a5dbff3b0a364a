use Rattle.std.proofs.lemmas.Result.{err_from_is_err_and}
use Rattle.rv_commands.proofs.CodeRows.{rows_short, disassembled}
use Rattle.rv_commands.proofs.answer.answer_disassembly.Goals as goal

pub push_disassembly-requires-clause-first_sizes : goal.push_disassembly-requires-clause-first_sizes
push_disassembly-requires-clause-first_sizes g c = rw c.deref.ensures.value (rows_short c.in_ok-first.ensures)

pub push_disassembly-requires-clause-next_sizes : goal.push_disassembly-requires-clause-next_sizes
push_disassembly-requires-clause-next_sizes g c = rw c.deref-2.ensures.value (rows_short c.in_ok-next.ensures)

pub returns-in_err-push_disassembly-clause-text : goal.returns-in_err-push_disassembly-clause-text
returns-in_err-push_disassembly-clause-text g c =
    let failed = err_from_is_err_and c.from_residual-in_err-push_disassembly.result c.from_residual-in_err-push_disassembly.ensures.1 in
    let text = rw (c.deref.ensures.value, c.deref-2.ensures.value) at c.in_err-push_disassembly.ensures.text in
    rw (failed.1, failed.2) (_, disassembled c.args.store.now _ _ c.in_ok-first.ensures c.in_ok-next.ensures, text)

pub returns-clause-text : goal.returns-clause-text
returns-clause-text g c =
    let text = rw (c.deref.ensures.value, c.deref-2.ensures.value) at c.in_ok-push_disassembly.ensures.text in
    (_, disassembled c.args.store.now _ _ c.in_ok-first.ensures c.in_ok-next.ensures, text)
