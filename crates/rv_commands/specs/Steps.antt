-- What the parts of a run do.
use Rattle.std.specs.Prelude.{◌≡◌, ℕ, ◌+◌, ◌≤◌, List, [], ◌∷◌, ◌++◌, length, take, false, Option, Result, Ok, Err}
use Rattle.std.specs.List.{flat_map, list_any}
use Rattle.rv_text.specs.Streams.{before, after, IsAtEnd, WritesPrefix}
use Rattle.rv_program.specs.declared.edit_error.EditError.{EditError}
use Rattle.rv_program.specs.Text.{Text, Edit}
use Rattle.rv_commands.specs.declared.answer_error.AnswerError.{AnswerError}
use Rattle.rv_commands.specs.declared.answer_error.AnswerError.TheVariants.{Write, Memory}
use Rattle.rv_text.specs.Blocks.{Waits, Gathers}
use Rattle.rv_commands.specs.Pages.{ended}
use Rattle.rv_commands.specs.Transcript.{accepted, refused, IsEditAnswer, IsAnswer, AreAnswers, is_line_break, unless_empty, empty_text}

-- the answer to an edit that was tried, after which there are n lines
abbrev pub edit_answer : {A : Type 0} → ℕ → Result A EditError → List ℕ
edit_answer n (Ok _) = accepted n
edit_answer n (Err reason) = refused reason

-- An answer was not gathered: a prefix of what was waiting and of it was taken, where a write failed; and there is none,
-- where memory ran out.
abbrev pub LosesOne : AnswerError → (List ℕ → Type 0) → Option (List ℕ) → List ℕ → Option (List ℕ) → List ℕ → Type 0
LosesOne Write Is taken_before waiting_before taken_after waiting_after =
    (answer : List ℕ) × Is answer × WritesPrefix taken_before (waiting_before ++ answer) taken_after
LosesOne Memory Is taken_before waiting_before taken_after waiting_after =
    (taken_after ≡ taken_before) × (waiting_after ≡ waiting_before)

-- an answer was gathered, or not
abbrev pub GathersOne : {A : Type 0} → (List ℕ → Type 0) → Option (List ℕ) → List ℕ → Result A AnswerError → Option (List ℕ) → List ℕ → Type 0
GathersOne Is taken_before waiting_before (Ok _) taken_after waiting_after =
    (answer : List ℕ) × Is answer × Waits taken_before waiting_before answer taken_after waiting_after
GathersOne Is taken_before waiting_before (Err e) taken_after waiting_after =
    LosesOne e Is taken_before waiting_before taken_after waiting_after

-- the answer to a command was gathered, or not
abbrev pub GathersAnswer : {A : Type 0} → Text → List ℕ → Option (List ℕ) → List ℕ → Result A AnswerError → Option (List ℕ) → List ℕ → Text → Type 0
GathersAnswer old command taken_before waiting_before result taken_after waiting_after new =
    GathersOne (λ answer. IsAnswer old command answer new) taken_before waiting_before result taken_after waiting_after

-- the answer to a command was taken, or not
abbrev pub AnswersCommand : {A : Type 0} → Text → List ℕ → Option (List ℕ) → Result A AnswerError → Option (List ℕ) → Text → Type 0
AnswersCommand old command taken_before (Ok _) taken_after new =
    (answer : List ℕ) × IsAnswer old command answer new × (taken_after ≡ after taken_before answer)
AnswersCommand old command taken_before (Err e) taken_after new =
    LosesOne e (λ answer. IsAnswer old command answer new) taken_before [] taken_after []

-- one more failure of the writer where a write failed, and none elsewhere
abbrev pub failures_by_answer : {A : Type 0} → ℕ → Result A AnswerError → ℕ
failures_by_answer failures (Ok _) = failures
failures_by_answer failures (Err Write) = failures + 1
failures_by_answer failures (Err Memory) = failures

-- There is an answer to the edit, and it was gathered, or a prefix of what was waiting and of it was taken where a write
-- failed.
abbrev pub GathersEditAnswer : {A E : Type 0} → Text → Edit → Option (List ℕ) → List ℕ → Result A E → Option (List ℕ) → List ℕ → Text → Type 0
GathersEditAnswer old edit taken_before waiting_before result taken_after waiting_after new =
    (answer : List ℕ) × IsEditAnswer old edit answer new × Gathers taken_before waiting_before answer result taken_after waiting_after

-- no line break stands in these bytes
abbrev pub IsUnbroken : List ℕ → Type 0
IsUnbroken bytes = list_any is_line_break bytes ≡ false

-- nor in any of these commands
abbrev pub AreUnbroken : List (List ℕ) → Type 0
AreUnbroken [] = Unit {0}
AreUnbroken (command ∷ commands) = IsUnbroken command × AreUnbroken commands

-- All commands of these bytes up to a rest are answered, and the answers were gathered.
pub record Gathered (old : Text) (bytes rest : List ℕ) (taken_before : Option (List ℕ)) (waiting_before : List ℕ) (taken_after : Option (List ℕ)) (waiting_after : List ℕ) (new : Text) : Type 0 where
  pub commands : List (List ℕ)
  pub output : List ℕ
  pub cut : bytes ≡ flat_map ended commands ++ rest
  pub unbroken : AreUnbroken commands
  pub answers : AreAnswers old commands output new
  pub waits : Waits taken_before waiting_before output taken_after waiting_after

-- A prefix of what was waiting and of the answers to the first commands of these bytes was taken.
pub record LosesAnswers (old : Text) (bytes : List ℕ) (taken_before : Option (List ℕ)) (waiting : List ℕ) (taken_after : Option (List ℕ)) : Type 0 where
  pub commands : List (List ℕ)
  pub rest : List ℕ
  pub output : List ℕ
  pub new : Text
  pub cut : bytes ≡ flat_map ended commands ++ rest
  pub unbroken : AreUnbroken commands
  pub answers : AreAnswers old commands output new
  pub taken : WritesPrefix taken_before (waiting ++ output) taken_after

-- Where gathering stops early: after a whole answer where memory runs out, and within one where a write failed.
abbrev pub StopsGathering : AnswerError → Text → List ℕ → Option (List ℕ) → List ℕ → Option (List ℕ) → List ℕ → Type 0
StopsGathering Write old bytes taken_before waiting_before taken_after waiting_after = LosesAnswers old bytes taken_before waiting_before taken_after
StopsGathering Memory old bytes taken_before waiting_before taken_after waiting_after =
    (rest : List ℕ) × (new : Text) × Gathered old bytes rest taken_before waiting_before taken_after waiting_after new

-- All commands of these bytes up to a rest are answered, and the answers were taken.
pub record Answered (old : Text) (bytes rest : List ℕ) (taken_before taken_after : Option (List ℕ)) (new : Text) : Type 0 where
  pub commands : List (List ℕ)
  pub output : List ℕ
  pub cut : bytes ≡ flat_map ended commands ++ rest
  pub unbroken : AreUnbroken commands
  pub answers : AreAnswers old commands output new
  pub taken : taken_after ≡ after taken_before output

-- A prefix of the answers to the first commands of these bytes was taken.
pub record StopsAtWrite (old : Text) (bytes : List ℕ) (taken_before taken_after : Option (List ℕ)) : Type 0 where
  pub commands : List (List ℕ)
  pub rest : List ℕ
  pub output : List ℕ
  pub lost : List ℕ
  pub new : Text
  pub cut : bytes ≡ flat_map ended commands ++ rest
  pub unbroken : AreUnbroken commands
  pub answers : AreAnswers old commands (output ++ lost) new
  pub taken : taken_after ≡ after taken_before output

-- Where answering stops early: after a whole answer where memory runs out, and within one where a write failed.
abbrev pub StopsBy : AnswerError → Text → List ℕ → Option (List ℕ) → Option (List ℕ) → Type 0
StopsBy Write old bytes taken_before taken_after = StopsAtWrite old bytes taken_before taken_after
StopsBy Memory old bytes taken_before taken_after =
    (rest : List ℕ) × (new : Text) × Answered old bytes rest taken_before taken_after new

-- A prefix of n bytes of the buffer was read, and none only at the end.
pub record ReadsChunk (left_before left_after : Option (List ℕ)) (buffer : List ℕ) (most n : ℕ) : Type 0 where
  pub read : left_before ≡ before (take n buffer) left_after
  pub within : n ≤ length buffer
  pub few : n ≤ most
  pub end : n ≡ 0 → IsAtEnd left_after

-- the answer to the last piece, if it is a command, was taken
pub record TakesAll (old : Text) (piece : List ℕ) (taken_before taken_after : Option (List ℕ)) : Type 0 where
  pub output : List ℕ
  pub new : Text
  pub answers : AreAnswers old (unless_empty piece) output new
  pub taken : taken_after ≡ after taken_before output

-- a prefix of it was taken
pub record TakesFront (old : Text) (piece : List ℕ) (taken_before taken_after : Option (List ℕ)) : Type 0 where
  pub output : List ℕ
  pub lost : List ℕ
  pub new : Text
  pub answers : AreAnswers old (unless_empty piece) (output ++ lost) new
  pub taken : taken_after ≡ after taken_before output

-- The last piece was not answered.
abbrev pub LosesLast : AnswerError → Text → List ℕ → Option (List ℕ) → Option (List ℕ) → Type 0
LosesLast Write old piece taken_before taken_after = TakesFront old piece taken_before taken_after
LosesLast Memory old piece taken_before taken_after = taken_after ≡ taken_before

-- the last piece of an input is answered, or not
abbrev pub Finishes : {A : Type 0} → Text → List ℕ → Option (List ℕ) → Result A AnswerError → Option (List ℕ) → Type 0
Finishes old piece taken_before (Ok _) taken_after = TakesAll old piece taken_before taken_after
Finishes old piece taken_before (Err e) taken_after = LosesLast e old piece taken_before taken_after

-- Where a run stands between two reads: what was read is answered up to a pending piece.
pub record Progress (base : ℕ) (left_before left_now taken_before taken_now : Option (List ℕ)) (pending : List ℕ) (text : Text) (total : ℕ) : Type 0 where
  pub input : List ℕ
  pub read : left_before ≡ before input left_now
  pub size : length input ≡ total
  pub answered : Answered (empty_text base) input pending taken_before taken_now text
  pub unbroken : IsUnbroken pending
