-- One command after another, whose answers are gathered.
use Rattle.std.proofs.Common.{◌≡◌, ℕ, List, [], ◌∷◌, ◌++◌, Option, refl, ◌∙◌, append_assoc}
use Rattle.std.proofs.lemmas.Grind.{flat_map-append}
use Rattle.rv_text.specs.Streams.{after, WritesPrefix}
use Rattle.rv_program.specs.Text.{Text}
use Rattle.rv_text.specs.Blocks.{Waits}
use Rattle.rv_commands.specs.declared.answer_error.AnswerError.{AnswerError}
use Rattle.rv_commands.specs.declared.answer_error.AnswerError.TheVariants.{Write, Memory}
use Rattle.rv_commands.specs.Transcript.{IsAnswer}
use Rattle.rv_commands.specs.Steps.{LosesOne, Gathered, LosesAnswers, StopsGathering, Answered, StopsAtWrite, IsUnbroken}
use Rattle.rv_text.specs.BlockLaws.{waits_none, waits_then, waits_lost, waits_end, waits_end_lost}
use Rattle.rv_commands.proofs.CutLemmas.{unbroken_append}
use Rattle.rv_commands.proofs.TranscriptLemmas.{answers_append, answers_one}

pub gathered_none : (old : Text) (bytes : List ℕ) (t : Option (List ℕ)) (p : List ℕ) → Gathered old bytes bytes t p t p old
gathered_none old bytes t p = record { commands = []; output = []; cut = refl; unbroken = tt; answers = (refl, refl); waits = waits_none t p }

pub gathered_one : (old new : Text) (bytes command next answer : List ℕ) (t0 t1 : Option (List ℕ)) (p0 p1 : List ℕ) → bytes ≡ command ++ (10 ∷ next) → IsUnbroken command → IsAnswer old command answer new → Waits t0 p0 answer t1 p1 → Gathered old bytes next t0 p0 t1 p1 new
gathered_one old new bytes command next answer t0 t1 p0 p1 e u a w = record {
  commands = command ∷ [];
  output = answer;
  cut = e ∙ simp append_assoc;
  unbroken = (u, tt);
  answers = answers_one old new command answer a;
  waits = w;
}

pub loses_one : (old new : Text) (bytes command next answer : List ℕ) (t0 t1 : Option (List ℕ)) (p : List ℕ) → bytes ≡ command ++ (10 ∷ next) → IsUnbroken command → IsAnswer old command answer new → WritesPrefix t0 (p ++ answer) t1 → LosesAnswers old bytes t0 p t1
loses_one old new bytes command next answer t0 t1 p e u a w = record {
  commands = command ∷ [];
  rest = next;
  output = answer;
  new = new;
  cut = e ∙ simp append_assoc;
  unbroken = (u, tt);
  answers = answers_one old new command answer a;
  taken = w;
}

-- the answers to some commands are gathered, and then those to the next ones
pub gathered_then : (old between new : Text) (bytes middle rest : List ℕ) (t0 t1 t2 : Option (List ℕ)) (p0 p1 p2 : List ℕ) → Gathered old bytes middle t0 p0 t1 p1 between → Gathered between middle rest t1 p1 t2 p2 new → Gathered old bytes rest t0 p0 t2 p2 new
gathered_then old between new bytes middle rest t0 t1 t2 p0 p1 p2 a b = record {
  commands = a.commands ++ b.commands;
  output = a.output ++ b.output;
  cut = rw (a.cut, b.cut, flat_map-append) (simp append_assoc);
  unbroken = unbroken_append a.commands b.commands a.unbroken b.unbroken;
  answers = answers_append old between new a.commands b.commands a.output b.output a.answers b.answers;
  waits = waits_then t0 t1 t2 p0 p1 p2 a.output b.output a.waits b.waits;
}

-- the answers to some commands are gathered, and a write fails within the next ones
pub gathered_loses : (old between : Text) (bytes middle : List ℕ) (t0 t1 t2 : Option (List ℕ)) (p0 p1 : List ℕ) → Gathered old bytes middle t0 p0 t1 p1 between → LosesAnswers between middle t1 p1 t2 → LosesAnswers old bytes t0 p0 t2
gathered_loses old between bytes middle t0 t1 t2 p0 p1 a b = record {
  commands = a.commands ++ b.commands;
  rest = b.rest;
  output = a.output ++ b.output;
  new = b.new;
  cut = rw (a.cut, b.cut, flat_map-append) (simp append_assoc);
  unbroken = unbroken_append a.commands b.commands a.unbroken b.unbroken;
  answers = answers_append old between b.new a.commands b.commands a.output b.output a.answers b.answers;
  taken = waits_lost t0 t1 t2 p0 p1 a.output b.output a.waits b.taken;
}

-- a command is not answered
pub one_stops : (e : AnswerError) (old new : Text) (bytes command next : List ℕ) (t0 t1 : Option (List ℕ)) (p0 p1 : List ℕ) → bytes ≡ command ++ (10 ∷ next) → IsUnbroken command → LosesOne e (λ answer. IsAnswer old command answer new) t0 p0 t1 p1 → StopsGathering e old bytes t0 p0 t1 p1
one_stops Write old new bytes command next t0 t1 p0 p1 e u a = loses_one old new bytes command next a.0 t0 t1 p0 e u a.1 a.2
one_stops Memory old new bytes command next t0 t1 p0 p1 e u a = (bytes, old, rw (a.0, a.1) (gathered_none old bytes t0 p0))

-- nor one of the next ones, after some that are
pub gathered_stops : (e : AnswerError) (old between : Text) (bytes middle : List ℕ) (t0 t1 t2 : Option (List ℕ)) (p0 p1 p2 : List ℕ) → Gathered old bytes middle t0 p0 t1 p1 between → StopsGathering e between middle t1 p1 t2 p2 → StopsGathering e old bytes t0 p0 t2 p2
gathered_stops Write old between bytes middle t0 t1 t2 p0 p1 p2 a b = gathered_loses old between bytes middle t0 t1 t2 p0 p1 a b
gathered_stops Memory old between bytes middle t0 t1 t2 p0 p1 p2 a b =
    (b.0, b.1, gathered_then old between b.1 bytes middle b.0 t0 t1 t2 p0 p1 p2 a b.2)

-- what was gathered is written
pub gathered_end : (old new : Text) (bytes rest : List ℕ) (t0 t1 t2 : Option (List ℕ)) (p : List ℕ) → Gathered old bytes rest t0 [] t1 p new → t2 ≡ after t1 p → Answered old bytes rest t0 t2 new
gathered_end old new bytes rest t0 t1 t2 p a e = record {
  commands = a.commands;
  output = a.output;
  cut = a.cut;
  unbroken = a.unbroken;
  answers = a.answers;
  taken = waits_end t0 t1 t2 p a.output a.waits e;
}

-- a write fails then
pub gathered_end_lost : (old new : Text) (bytes rest : List ℕ) (t0 t1 t2 : Option (List ℕ)) (p : List ℕ) → Gathered old bytes rest t0 [] t1 p new → WritesPrefix t1 p t2 → StopsAtWrite old bytes t0 t2
gathered_end_lost old new bytes rest t0 t1 t2 p a w =
    let lost = waits_end_lost t0 t1 t2 p a.output a.waits w in record {
      commands = a.commands;
      rest = rest;
      output = lost.prefix;
      lost = lost.rest;
      new = new;
      cut = a.cut;
      unbroken = a.unbroken;
      answers = rw (← lost.whole) a.answers;
      taken = lost.taken;
    }

-- or earlier
pub loses_stops : (old : Text) (bytes : List ℕ) (t0 t1 : Option (List ℕ)) → LosesAnswers old bytes t0 [] t1 → StopsAtWrite old bytes t0 t1
loses_stops old bytes t0 t1 a = record {
  commands = a.commands;
  rest = a.rest;
  output = a.taken.prefix;
  lost = a.taken.rest;
  new = a.new;
  cut = a.cut;
  unbroken = a.unbroken;
  answers = rw (← a.taken.whole) a.answers;
  taken = a.taken.taken;
}
