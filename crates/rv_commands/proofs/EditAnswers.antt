-- What is answered to an edit.
use Rattle.std.proofs.Common.{◌≡◌, length, ap, sym, inl, inr, subst}
use Rattle.std.specs.Prelude.{Option, Some, None, Result, Ok, Err, unwrap_or}
use Rattle.rv_program.specs.declared.edit_error.EditError.{EditError}
use Rattle.rv_program.specs.declared.edit_error.EditError.TheVariants.{Memory}
use Rattle.rv_program.specs.Text.{Text, Edit, Edits, refusal_of}
use Rattle.rv_commands.specs.Steps.{edit_answer}
use Rattle.rv_commands.specs.Transcript.{accepted, refused, IsEditAnswer, IsEditAnswerBy}

refused_by : (old new : Text) (edit : Edit) (reason : EditError) (refusal : Option EditError) → reason ≡ unwrap_or refusal Memory → new ≡ old → IsEditAnswerBy refusal old edit (refused reason) new
refused_by old new edit reason None is same = inr (ap refused is, same)
refused_by old new edit reason (Some other) is same = (ap refused is, same)

-- the answer to an edit that was tried
pub edit_answered : {A : Type 0} (old new : Text) (edit : Edit) (result : Result A EditError) → Edits old edit result new → IsEditAnswer old edit (edit_answer (length new.lines) result) new
edit_answered old new edit (Ok x) e =
    subst (λ refusal. IsEditAnswerBy refusal old edit (accepted (length new.lines)) new) (sym e.0) (inl (ap (λ text. accepted (length text.lines)) e.1, e.1))
edit_answered old new edit (Err reason) e = refused_by old new edit reason (refusal_of old.lines edit) e.0 e.1
