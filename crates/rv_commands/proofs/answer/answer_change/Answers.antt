use Rattle.rv_program.specs.Edits.{edit_of}
use Rattle.rv_commands.proofs.EditAnswers.{edit_answered}
use Rattle.rv_commands.proofs.answer.answer_change.Goals as goal

pub returns-clause-text : goal.returns-clause-text
returns-clause-text g c =
    let text = rw c.len-len.ensures.value at c.answer_edit.ensures.text in
    (_, edit_answered c.args.store.now c.make_edit-edited.new.store (edit_of c.args.edit) c.make_edit-edited.result c.make_edit-edited.ensures, text)
