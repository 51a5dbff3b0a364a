-- What a run has done when it ends.
use Rattle.std.specs.Prelude.{◌≡◌, ℕ, ◌+◌, ◌≤◌, List, [], ◌++◌, length, Option, Result, Ok, Err, ◌⊎◌}
use Rattle.rv_text.specs.Streams.{before, after, IsAtEnd}
use Rattle.rv_program.specs.Text.{Text}
use Rattle.rv_commands.specs.declared.run_error.RunError.{RunError}
use Rattle.rv_commands.specs.declared.run_error.RunError.TheVariants.{Read, Write, Memory}
use Rattle.rv_commands.specs.Transcript.{AreAnswers, complete_commands, commands_of, empty_text, IsTranscript}

-- All of the input was read, and each of its commands was answered.
pub record EndsWell (base : ℕ) (left_before left_after taken_before taken_after : Option (List ℕ)) : Type 0 where
  pub input : List ℕ
  pub output : List ℕ
  pub read : left_before ≡ before input left_after
  pub end : IsAtEnd left_after
  pub few : length input ≤ 67108864
  pub transcript : IsTranscript base input output
  pub taken : taken_after ≡ after taken_before output

-- Why reading stopped: a call of the reader failed, or a byte came beyond the first 64 MiB.
abbrev pub IsReadCause : ℕ → ℕ → List ℕ → List ℕ → Type 0
IsReadCause failures_before failures_after input beyond =
    ((failures_after ≡ failures_before + 1) × (beyond ≡ []))
    ⊎ ((failures_after ≡ failures_before) × (length input ≡ 67108864) × (length beyond ≡ 1))

-- Reading stopped after this input, and each of its complete commands was answered, and nothing else.
pub record EndsByRead (base failures_before failures_after : ℕ) (left_before left_after taken_before taken_after : Option (List ℕ)) : Type 0 where
  pub input : List ℕ
  pub beyond : List ℕ
  pub output : List ℕ
  pub text : Text
  pub read : left_before ≡ before (input ++ beyond) left_after
  pub few : length input ≤ 67108864
  pub cause : IsReadCause failures_before failures_after input beyond
  pub answers : AreAnswers (empty_text base) (complete_commands input) output text
  pub taken : taken_after ≡ after taken_before output

-- These are the first commands of what was read. Its last piece is one of them only where the reader is at its end.
abbrev pub AreFirstCommands : List ℕ → Option (List ℕ) → List (List ℕ) → Type 0
AreFirstCommands input left commands =
    ((others : List (List ℕ)) × (complete_commands input ≡ commands ++ others))
    ⊎ (IsAtEnd left × (commands ≡ commands_of input))

-- A write failed: a prefix of the answers to the first commands was taken.
pub record EndsByWrite (base : ℕ) (left_before left_after taken_before taken_after : Option (List ℕ)) : Type 0 where
  pub input : List ℕ
  pub commands : List (List ℕ)
  pub output : List ℕ
  pub lost : List ℕ
  pub text : Text
  pub read : left_before ≡ before input left_after
  pub few : length input ≤ 67108864
  pub first : AreFirstCommands input left_after commands
  pub answers : AreAnswers (empty_text base) commands (output ++ lost) text
  pub taken : taken_after ≡ after taken_before output

-- Memory ran out: the first of the complete commands were answered, each answer whole.
pub record EndsByMemory (base : ℕ) (left_before left_after taken_before taken_after : Option (List ℕ)) : Type 0 where
  pub input : List ℕ
  pub commands : List (List ℕ)
  pub others : List (List ℕ)
  pub output : List ℕ
  pub text : Text
  pub read : left_before ≡ before input left_after
  pub few : length input ≤ 67108864
  pub first : complete_commands input ≡ commands ++ others
  pub answers : AreAnswers (empty_text base) commands output text
  pub taken : taken_after ≡ after taken_before output

-- how a run ends early
abbrev pub EndsEarly : RunError → ℕ → ℕ → ℕ → Option (List ℕ) → Option (List ℕ) → Option (List ℕ) → Option (List ℕ) → Type 0
EndsEarly Read base failures_before failures_after left_before left_after taken_before taken_after = EndsByRead base failures_before failures_after left_before left_after taken_before taken_after
EndsEarly Write base failures_before failures_after left_before left_after taken_before taken_after = EndsByWrite base left_before left_after taken_before taken_after
EndsEarly Memory base failures_before failures_after left_before left_after taken_before taken_after = EndsByMemory base left_before left_after taken_before taken_after

-- one more failure of the writer where that ended the run, and none elsewhere
abbrev pub failures_by_write : {A : Type 0} → ℕ → Result A RunError → ℕ
failures_by_write failures (Ok _) = failures
failures_by_write failures (Err Read) = failures
failures_by_write failures (Err Write) = failures + 1
failures_by_write failures (Err Memory) = failures

-- The reader has failed once at most, and only where reading ended the run.
abbrev pub IsReadCount : {A : Type 0} → ℕ → Result A RunError → ℕ → Type 0
IsReadCount failures_before (Ok _) failures_after = failures_after ≡ failures_before
IsReadCount failures_before (Err Read) failures_after = (failures_after ≡ failures_before) ⊎ (failures_after ≡ failures_before + 1)
IsReadCount failures_before (Err Write) failures_after = failures_after ≡ failures_before
IsReadCount failures_before (Err Memory) failures_after = failures_after ≡ failures_before
