-- One command after another.
use Rattle.std.proofs.Common.{ℕ, List, [], ◌++◌, Option, refl, sym, append_assoc}
use Rattle.std.proofs.lemmas.Grind.{flat_map-append}
use Rattle.std.specs.List.{flat_map}
use Rattle.rv_text.specs.StreamLaws.{after_after, after_none}
use Rattle.rv_program.specs.Text.{Text}
use Rattle.rv_commands.specs.Steps.{Answered, StopsAtWrite}
use Rattle.rv_commands.specs.Pages.{ended}
use Rattle.rv_commands.proofs.CutLemmas.{unbroken_append}
use Rattle.rv_commands.proofs.TranscriptLemmas.{answers_append}

pub answered_none : (old : Text) (bytes : List ℕ) (taken : Option (List ℕ)) → Answered old bytes bytes taken taken old
answered_none old bytes taken = record { commands = []; output = []; cut = refl; unbroken = tt; answers = (refl, refl); taken = sym (after_none taken) }

-- some commands are answered, and then the next ones
pub answered_then : (old between new : Text) (bytes middle rest : List ℕ) (t0 t1 t2 : Option (List ℕ)) → Answered old bytes middle t0 t1 between → Answered between middle rest t1 t2 new → Answered old bytes rest t0 t2 new
answered_then old between new bytes middle rest t0 t1 t2 a b = record {
  commands = a.commands ++ b.commands;
  output = a.output ++ b.output;
  cut = rw (a.cut, b.cut, flat_map-append) (simp append_assoc);
  unbroken = unbroken_append a.commands b.commands a.unbroken b.unbroken;
  answers = answers_append old between new a.commands b.commands a.output b.output a.answers b.answers;
  taken = rw (b.taken, a.taken) (after_after t0 a.output b.output);
}

-- some commands are answered, and a write fails within the next ones
pub answered_stops : (old between : Text) (bytes middle : List ℕ) (t0 t1 t2 : Option (List ℕ)) → Answered old bytes middle t0 t1 between → StopsAtWrite between middle t1 t2 → StopsAtWrite old bytes t0 t2
answered_stops old between bytes middle t0 t1 t2 a b = record {
  commands = a.commands ++ b.commands;
  rest = b.rest;
  output = a.output ++ b.output;
  lost = b.lost;
  new = b.new;
  cut = rw (a.cut, b.cut, flat_map-append) (simp append_assoc);
  unbroken = unbroken_append a.commands b.commands a.unbroken b.unbroken;
  answers = rw (append_assoc a.output b.output b.lost) (answers_append old between b.new a.commands b.commands a.output (b.output ++ b.lost) a.answers b.answers);
  taken = rw (b.taken, a.taken) (after_after t0 a.output b.output);
}

-- more bytes come after those that are answered up to a rest
pub answered_onto : (old new : Text) (bytes rest piece : List ℕ) (t0 t1 : Option (List ℕ)) → Answered old bytes rest t0 t1 new → Answered old (bytes ++ piece) (rest ++ piece) t0 t1 new
answered_onto old new bytes rest piece t0 t1 a = record {
  commands = a.commands;
  output = a.output;
  cut = rw a.cut (append_assoc (flat_map ended a.commands) rest piece);
  unbroken = a.unbroken;
  answers = a.answers;
  taken = a.taken;
}
