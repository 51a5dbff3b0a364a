-- A command that was not answered.
use Rattle.std.proofs.Common.{ℕ, List, [], Option, refl}
use Rattle.rv_commands.specs.declared.answer_error.AnswerError.{AnswerError}
use Rattle.rv_commands.specs.declared.answer_error.AnswerError.TheVariants.{Write, Memory}
use Rattle.rv_commands.specs.Steps.{LosesOne}

-- nothing was waiting before it
pub loses_alone : (e : AnswerError) (Is : List ℕ → Type 0) (t0 t1 : Option (List ℕ)) (p1 : List ℕ) → LosesOne e Is t0 [] t1 p1 → LosesOne e Is t0 [] t1 []
loses_alone Write Is t0 t1 p1 a = a
loses_alone Memory Is t0 t1 p1 a = (a.0, refl)
