-- Answers to some commands and then to others.
use Rattle.std.proofs.Common.{ℕ, List, [], ◌∷◌, ◌++◌, refl, sym, append_assoc}
use Rattle.std.proofs.lemmas.List.{append-nil}
use Rattle.rv_program.specs.Text.{Text}
use Rattle.rv_commands.specs.Transcript.{IsAnswer, AreAnswers}

-- the answers to these commands and then to those
pub answers_append : (old between new : Text) (xs ys : List (List ℕ)) (output more : List ℕ) → AreAnswers old xs output between → AreAnswers between ys more new → AreAnswers old (xs ++ ys) (output ++ more) new
answers_append old between new [] ys output more a b = rw (a.0, ← a.1) b
answers_append old between new (x ∷ xs) ys output more a b =
    (a.0, a.1, a.2 ++ more, a.3, rw a.4 (append_assoc a.1 a.2 more), answers_append a.0 between new xs ys a.2 more a.5 b)

-- the answer to one command
pub answers_one : (old new : Text) (command answer : List ℕ) → IsAnswer old command answer new → AreAnswers old (command ∷ []) answer new
answers_one old new command answer a = (new, answer, [], a, sym (append-nil answer), (refl, refl))
