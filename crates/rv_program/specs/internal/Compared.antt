-- What is counted while the lines are looked for that are due after an edit: the jumps to local labels that are compared.
use Rattle.std.specs.Prelude.{◌≡◌, ℕ, ◌+◌, ◌-◌, ◌≤◌}
use Rattle.rv_text.specs.Counting.{Counts}
use Rattle.rv_program.specs.internal.Revisions.{EditedText}
use Rattle.rv_program.specs.internal.Work.{compared_operands, work}

-- how many of the first n lines of the text after an edit may be compared
abbrev pub compared_through : EditedText → (n : ℕ) → ℕ
compared_through r n = work compared_operands r.base r.lines r.edit n

-- line k is looked at: it is compared at most once
pub record IsCompared (r : EditedText) (k : ℕ) (old new : Counts) : Type 0 where
  pub parsed : new.parsed ≡ old.parsed
  pub least : old.valued ≤ new.valued
  pub one : new.valued ≤ old.valued + 1
  pub most : new.valued + compared_through r (k - 1) ≤ old.valued + compared_through r k
  pub encoded : new.encoded ≡ old.encoded

-- the first n lines are looked at
pub record AreCompared (r : EditedText) (n : ℕ) (old new : Counts) : Type 0 where
  pub parsed : new.parsed ≡ old.parsed
  pub least : old.valued ≤ new.valued
  pub few : new.valued ≤ old.valued + n
  pub most : new.valued ≤ old.valued + compared_through r n
  pub encoded : new.encoded ≡ old.encoded
