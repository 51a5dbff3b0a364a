-- From one read to the next, and how a run ends.
use Rattle.std.proofs.Common.{◌≡◌, ℕ, ◌+◌, ◌-◌, ◌<◌, ◌≤◌, List, [], ◌∷◌, ◌++◌, length, take, Option, refl, ap, sym, ◌∙◌, append_assoc, arith, inl, inr, subst, length-append, Result, Ok, Err}
use Rattle.std.proofs.lemmas.List.{append-nil, length-take-le}
use Rattle.rv_text.specs.Streams.{before, after, WritesPrefix}
use Rattle.rv_text.specs.StreamLaws.{after_after, after_none, before_before, before_none}
use Rattle.rv_program.specs.Text.{Text}
use Rattle.rv_commands.specs.declared.answer_error.AnswerError.{AnswerError}
use Rattle.rv_commands.specs.declared.answer_error.AnswerError.TheVariants.{Write, Memory}
use Rattle.rv_commands.specs.Faults.{run_error}
use Rattle.rv_commands.specs.Transcript.{IsAnswer, AreAnswers, complete_commands, commands_of, unless_empty, empty_text}
use Rattle.rv_commands.specs.Outcomes.{EndsWell, EndsByRead, EndsEarly}
use Rattle.rv_commands.specs.Steps.{Answered, StopsAtWrite, StopsBy, ReadsChunk, TakesAll, TakesFront, LosesLast, Finishes, AnswersCommand, Progress, IsUnbroken}
use Rattle.rv_commands.proofs.TranscriptLemmas.{answers_append, answers_one}
use Rattle.rv_commands.proofs.CutLemmas.{complete_prefix, complete_unbroken, commands_whole}
use Rattle.rv_commands.proofs.StepLemmas.{answered_none, answered_then, answered_stops, answered_onto}

no_bytes : (bytes : List ℕ) → length bytes ≡ 0 → bytes ≡ []
no_bytes [] e = refl
no_bytes (b ∷ bytes) e = absurd (omega arith)

-- what was read so far and then a chunk
read_then : (l0 l1 l2 : Option (List ℕ)) (input chunk : List ℕ) → l0 ≡ before input l1 → l1 ≡ before chunk l2 → l0 ≡ before (input ++ chunk) l2
read_then l0 l1 l2 input chunk a b = a ∙ rw b (before_before l2 input chunk)

-- what was answered are the first complete commands
first_answered : (old new : Text) (bytes rest : List ℕ) (t0 t1 : Option (List ℕ)) → (a : Answered old bytes rest t0 t1 new) → complete_commands bytes ≡ a.commands ++ complete_commands rest
first_answered old new bytes rest t0 t1 a = ap complete_commands a.cut ∙ complete_prefix a.commands rest a.unbroken

first_tried : (old : Text) (bytes : List ℕ) (t0 t1 : Option (List ℕ)) → (a : StopsAtWrite old bytes t0 t1) → complete_commands bytes ≡ a.commands ++ complete_commands a.rest
first_tried old bytes t0 t1 a = ap complete_commands a.cut ∙ complete_prefix a.commands a.rest a.unbroken

-- all of them, where the rest has no line break
all_answered : (old new : Text) (bytes rest : List ℕ) (t0 t1 : Option (List ℕ)) → (a : Answered old bytes rest t0 t1 new) → IsUnbroken rest → AreAnswers old (complete_commands bytes) a.output new
all_answered old new bytes rest t0 t1 a u =
    rw (first_answered old new bytes rest t0 t1 a, complete_unbroken rest u, append-nil a.commands) a.answers

-- and with the last piece the commands of the whole input
whole_answered : (old new : Text) (bytes rest : List ℕ) (t0 t1 : Option (List ℕ)) → (a : Answered old bytes rest t0 t1 new) → IsUnbroken rest → commands_of bytes ≡ a.commands ++ unless_empty rest
whole_answered old new bytes rest t0 t1 a u = ap commands_of a.cut ∙ commands_whole a.commands rest a.unbroken u

pub progress_start : (base : ℕ) (left taken : Option (List ℕ)) → Progress base left left taken taken [] (empty_text base) 0
progress_start base left taken = record { input = []; read = sym (before_none left); size = refl; answered = answered_none (empty_text base) [] taken; unbroken = refl }

-- the text is empty at first
pub progress_begin : (text : Text) (left taken : Option (List ℕ)) → text.lines ≡ [] → Progress text.base left left taken taken [] text 0
progress_begin text left taken none =
    subst (λ start. Progress text.base left left taken taken [] start 0) (sym (ap (λ lines. record { base = text.base; lines = lines }) none)) (progress_start text.base left taken)

-- a chunk more is read, and its commands are answered
pub progress_more : (base : ℕ) (l0 l1 l2 t0 t1 t2 : Option (List ℕ)) (p p1 buffer chunk : List ℕ) (text new : Text) (total most n : ℕ) → chunk ≡ take n buffer → Progress base l0 l1 t0 t1 p text total → ReadsChunk l1 l2 buffer most n → Answered text (p ++ chunk) p1 t1 t2 new → IsUnbroken p1 → Progress base l0 l2 t0 t2 p1 new (total + n)
progress_more base l0 l1 l2 t0 t1 t2 p p1 buffer chunk text new total most n e g r a u = record {
  input = g.input ++ take n buffer;
  read = read_then l0 l1 l2 g.input (take n buffer) g.read r.read;
  size = rw (length-append, g.size, length-take-le n buffer r.within) refl;
  answered = answered_then _ _ _ _ _ _ _ _ _ (answered_onto (empty_text base) text g.input p (take n buffer) t0 t1 g.answered) (rw e at a);
  unbroken = u;
}

-- the reader failed
pub ends_by_failure : (base fb fa : ℕ) (l0 l1 l2 t0 t1 : Option (List ℕ)) (p : List ℕ) (text : Text) (total : ℕ) → total ≤ 67108864 → Progress base l0 l1 t0 t1 p text total → l2 ≡ l1 → fa ≡ fb + 1 → EndsByRead base fb fa l0 l2 t0 t1
ends_by_failure base fb fa l0 l1 l2 t0 t1 p text total few g s f = record {
  input = g.input;
  beyond = [];
  output = g.answered.output;
  text = text;
  read = g.read ∙ rw (s, append-nil) refl;
  few = rw g.size few;
  cause = inl (f, refl);
  answers = all_answered (empty_text base) text g.input p t0 t1 g.answered g.unbroken;
  taken = g.answered.taken;
}

-- the reader gave a byte too many
pub ends_beyond : (base fb fa : ℕ) (l0 l1 l2 t0 t1 : Option (List ℕ)) (p buffer : List ℕ) (text : Text) (total n : ℕ) → total ≡ 67108864 → 0 < n → fa ≡ fb → Progress base l0 l1 t0 t1 p text total → ReadsChunk l1 l2 buffer 1 n → EndsByRead base fb fa l0 l2 t0 t1
ends_beyond base fb fa l0 l1 l2 t0 t1 p buffer text total n all some f g r = record {
  input = g.input;
  beyond = take n buffer;
  output = g.answered.output;
  text = text;
  read = read_then l0 l1 l2 g.input (take n buffer) g.read r.read;
  few = omega (arith, g.size);
  cause = inr (f, g.size ∙ all, omega (arith, length-take-le n buffer r.within, r.few));
  answers = all_answered (empty_text base) text g.input p t0 t1 g.answered g.unbroken;
  taken = g.answered.taken;
}

-- a chunk could not be answered
pub ends_in_chunk : (e : AnswerError) (base fb fa : ℕ) (l0 l1 l2 t0 t1 t2 : Option (List ℕ)) (p buffer chunk : List ℕ) (text : Text) (total n : ℕ) → chunk ≡ take n buffer → total ≤ 67108864 → Progress base l0 l1 t0 t1 p text total → ReadsChunk l1 l2 buffer (67108864 - total) n → StopsBy e text (p ++ chunk) t1 t2 → EndsEarly (run_error e) base fb fa l0 l2 t0 t2
ends_in_chunk Write base fb fa l0 l1 l2 t0 t1 t2 p buffer chunk text total n e few g r s =
    let onto = answered_onto (empty_text base) text g.input p (take n buffer) t0 t1 g.answered in
    let a = answered_stops _ _ _ _ _ _ _ onto (rw e at s) in record {
      input = g.input ++ take n buffer;
      commands = a.commands;
      output = a.output;
      lost = a.lost;
      text = a.new;
      read = read_then l0 l1 l2 g.input (take n buffer) g.read r.read;
      few = rw (length-append, g.size, length-take-le n buffer r.within) (omega (arith, r.few));
      first = inl (complete_commands a.rest, first_tried (empty_text base) (g.input ++ take n buffer) t0 t2 a);
      answers = a.answers;
      taken = a.taken;
    }
ends_in_chunk Memory base fb fa l0 l1 l2 t0 t1 t2 p buffer chunk text total n e few g r s =
    let onto = answered_onto (empty_text base) text g.input p (take n buffer) t0 t1 g.answered in
    let a = answered_then _ _ _ _ _ _ _ _ _ onto (rw e at s.2) in record {
      input = g.input ++ take n buffer;
      commands = a.commands;
      others = complete_commands s.0;
      output = a.output;
      text = s.1;
      read = read_then l0 l1 l2 g.input (take n buffer) g.read r.read;
      few = rw (length-append, g.size, length-take-le n buffer r.within) (omega (arith, r.few));
      first = first_answered (empty_text base) s.1 (g.input ++ take n buffer) s.0 t0 t2 a;
      answers = a.answers;
      taken = a.taken;
    }

-- a read of no byte leaves what was there
nothing_read : (l1 l2 : Option (List ℕ)) (buffer : List ℕ) (most n : ℕ) → n ≡ 0 → ReadsChunk l1 l2 buffer most n → l1 ≡ l2
nothing_read l1 l2 buffer most n none r =
    let empty : take n buffer ≡ [] = no_bytes (take n buffer) (omega (arith, length-take-le n buffer r.within)) in
    r.read ∙ rw empty (before_none l2)

-- the input is at its end, and its last piece was answered
pub ends_well : (base : ℕ) (l0 l1 l2 t0 t1 t2 : Option (List ℕ)) (p last buffer : List ℕ) (text : Text) (total most n : ℕ) → last ≡ p → n ≡ 0 → total ≤ 67108864 → Progress base l0 l1 t0 t1 p text total → ReadsChunk l1 l2 buffer most n → TakesAll text last t1 t2 → EndsWell base l0 l2 t0 t2
ends_well base l0 l1 l2 t0 t1 t2 p last buffer text total most n same none few g r f =
    let all = rw same at f in record {
      input = g.input;
      output = g.answered.output ++ all.output;
      read = g.read ∙ ap (before g.input) (nothing_read l1 l2 buffer most n none r);
      end = r.end none;
      few = rw g.size few;
      transcript = (
        all.new,
        rw (whole_answered (empty_text base) text g.input p t0 t1 g.answered g.unbroken) (answers_append (empty_text base) text all.new g.answered.commands (unless_empty p) g.answered.output all.output g.answered.answers all.answers),
      );
      taken = rw (all.taken, g.answered.taken) (after_after t0 g.answered.output all.output);
    }

-- the input is at its end, and its last piece was not answered
pub ends_in_last : (e : AnswerError) (base fb fa : ℕ) (l0 l1 l2 t0 t1 t2 : Option (List ℕ)) (p last buffer : List ℕ) (text : Text) (total most n : ℕ) → last ≡ p → n ≡ 0 → total ≤ 67108864 → Progress base l0 l1 t0 t1 p text total → ReadsChunk l1 l2 buffer most n → LosesLast e text last t1 t2 → EndsEarly (run_error e) base fb fa l0 l2 t0 t2
ends_in_last Write base fb fa l0 l1 l2 t0 t1 t2 p last buffer text total most n same none few g r f =
    let prefix = rw same at f in record {
      input = g.input;
      commands = g.answered.commands ++ unless_empty p;
      output = g.answered.output ++ prefix.output;
      lost = prefix.lost;
      text = prefix.new;
      read = g.read ∙ ap (before g.input) (nothing_read l1 l2 buffer most n none r);
      few = rw g.size few;
      first = inr (r.end none, sym (whole_answered (empty_text base) text g.input p t0 t1 g.answered g.unbroken));
      answers = rw append_assoc (answers_append (empty_text base) text prefix.new g.answered.commands (unless_empty p) g.answered.output (prefix.output ++ prefix.lost) g.answered.answers prefix.answers);
      taken = rw (prefix.taken, g.answered.taken) (after_after t0 g.answered.output prefix.output);
    }
ends_in_last Memory base fb fa l0 l1 l2 t0 t1 t2 p last buffer text total most n same none few g r f = record {
  input = g.input;
  commands = g.answered.commands;
  others = complete_commands p;
  output = g.answered.output;
  text = text;
  read = g.read ∙ ap (before g.input) (nothing_read l1 l2 buffer most n none r);
  few = rw g.size few;
  first = first_answered (empty_text base) text g.input p t0 t1 g.answered;
  answers = g.answered.answers;
  taken = f ∙ g.answered.taken;
}

-- an empty last piece is no command
pub takes_none : (old : Text) (piece : List ℕ) (taken : Option (List ℕ)) → length piece ≡ 0 → TakesAll old piece taken taken
takes_none old [] taken e = record { output = []; new = old; answers = (refl, refl); taken = sym (after_none taken) }
takes_none old (b ∷ piece) taken e = absurd (omega arith)

takes_all : (old new : Text) (piece answer : List ℕ) (t0 t1 : Option (List ℕ)) → (length piece ≡ 0 → ⊥) → IsAnswer old piece answer new → t1 ≡ after t0 answer → TakesAll old piece t0 t1
takes_all old new [] answer t0 t1 some a t = absurd (some refl)
takes_all old new (b ∷ piece) answer t0 t1 some a t = record { output = answer; new = new; answers = answers_one old new (b ∷ piece) answer a; taken = t }

takes_prefix : (old new : Text) (piece answer : List ℕ) (t0 t1 : Option (List ℕ)) → (length piece ≡ 0 → ⊥) → IsAnswer old piece answer new → WritesPrefix t0 answer t1 → TakesFront old piece t0 t1
takes_prefix old new [] answer t0 t1 some a w = absurd (some refl)
takes_prefix old new (b ∷ piece) answer t0 t1 some a w = record { output = w.prefix; lost = w.rest; new = new; answers = rw (← w.whole) (answers_one old new (b ∷ piece) answer a); taken = w.taken }

-- the last piece is a command, which is answered or not
pub finishes : {A : Type 0} (result : Result A AnswerError) (old new : Text) (piece : List ℕ) (t0 t1 : Option (List ℕ)) → (length piece ≡ 0 → ⊥) → AnswersCommand old piece t0 result t1 new → Finishes old piece t0 result t1
finishes (Ok x) old new piece t0 t1 some a = takes_all old new piece a.0 t0 t1 some a.1 a.2
finishes (Err Write) old new piece t0 t1 some a = takes_prefix old new piece a.0 t0 t1 some a.1 a.2
finishes (Err Memory) old new piece t0 t1 some a = a.0
