-- What becomes of output that is gathered in a block before they are written.
use Rattle.std.specs.Prelude.{◌≡◌, ℕ, List, ◌++◌, Option, Result, Ok, Err}
use Rattle.rv_text.specs.Streams.{after, WritesPrefix}

-- Some prefix of what was waiting and of the text after it was taken, and the rest of both waits now.
pub record Waits (taken_before : Option (List ℕ)) (waiting_before text : List ℕ) (taken_after : Option (List ℕ)) (waiting_after : List ℕ) : Type 0 where
  pub prefix : List ℕ
  pub whole : waiting_before ++ text ≡ prefix ++ waiting_after
  pub taken : taken_after ≡ after taken_before prefix

-- The text waits after what was waiting, but for a prefix of both that was taken; where a write failed, a prefix of both
-- was taken.
abbrev pub Gathers : {A E : Type 0} → Option (List ℕ) → List ℕ → List ℕ → Result A E → Option (List ℕ) → List ℕ → Type 0
Gathers taken_before waiting_before text (Ok _) taken_after waiting_after = Waits taken_before waiting_before text taken_after waiting_after
Gathers taken_before waiting_before text (Err _) taken_after waiting_after = WritesPrefix taken_before (waiting_before ++ text) taken_after
