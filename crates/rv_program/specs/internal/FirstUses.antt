-- From which line on a text may use the names of a bucket.
use Rattle.std.specs.Prelude.{◌≡◌, ℕ, ◌≤◌, ◌<◌, min, true, List, [], length, get_or, Option, Some, None}
use Rattle.rv_stmt.specs.Statement.{statement_of}
use Rattle.rv_program.specs.declared.used_names.UsedNames.{UsedNames}
use Rattle.rv_program.specs.internal.Briefs.{brief_of}
use Rattle.rv_program.specs.internal.NameSets.{may_have}

-- a place for each bucket, or none where nothing is known, and one for the lines of whose names the groups alone are known
pub record Firsts : Type 0 where
  pub places : Option (List ℕ)
  pub many : ℕ

abbrev pub first_among : Option (List ℕ) → (many bucket : ℕ) → ℕ
first_among None many bucket = 0
first_among (Some places) many bucket = min (get_or places bucket 0) many

-- no line before this place uses a name of the bucket
abbrev pub first_use : Firsts → (bucket : ℕ) → ℕ
first_use firsts bucket = first_among firsts.places firsts.many bucket

abbrev pub names_on : (line : List ℕ) → UsedNames
names_on line = (brief_of (statement_of line)).names

abbrev pub AreFirstUses : (lines : List (List ℕ)) → Firsts → Type 0
AreFirstUses lines firsts = (i bucket : ℕ) → i < length lines → may_have (names_on (get_or lines i [])) bucket ≡ true → first_use firsts bucket ≤ i

-- a line at a place uses some names, and what the others gave stays
pub record AreLowered (names : UsedNames) (place : ℕ) (old new : Firsts) : Type 0 where
  pub kept : (bucket : ℕ) → first_use new bucket ≤ first_use old bucket
  pub added : (bucket : ℕ) → may_have names bucket ≡ true → first_use new bucket ≤ place
