-- What a call of a reader or a writer does to its bytes, where its type knows them, and to its count of failed calls.
use Rattle.std.specs.Prelude.{◌≡◌, ℕ, zero, suc, ◌+◌, List, [], ◌++◌, ⊤, Option, Some, None, Result, Ok, Err, is_ok, if◌then◌else◌}
use Rattle.std.specs.Option.{option_map}

-- these bytes, and then the others, where those are known
abbrev pub before : List ℕ → Option (List ℕ) → Option (List ℕ)
before bytes others = option_map (λ rest. bytes ++ rest) others

-- these bytes after the others, where those are known
abbrev pub after : Option (List ℕ) → List ℕ → Option (List ℕ)
after others bytes = option_map (λ prefix. prefix ++ bytes) others

-- where the bytes are known, none is left
abbrev pub IsAtEnd : Option (List ℕ) → Type 0
IsAtEnd None = ⊤
IsAtEnd (Some bytes) = bytes ≡ []

-- one more failure after a failed call, and none after another
abbrev pub failures_after : {A E : Type 0} → ℕ → Result A E → ℕ
failures_after count result = if is_ok result then count else count + 1

-- some prefix of the text was taken
pub record WritesPrefix (old : Option (List ℕ)) (text : List ℕ) (new : Option (List ℕ)) : Type 0 where
  pub prefix : List ℕ
  pub rest : List ℕ
  pub whole : text ≡ prefix ++ rest
  pub taken : new ≡ after old prefix

-- the text was taken, or where a write failed some prefix of it
abbrev pub Writes : {A E : Type 0} → Option (List ℕ) → List ℕ → Result A E → Option (List ℕ) → Type 0
Writes old text (Ok _) new = new ≡ after old text
Writes old text (Err _) new = WritesPrefix old text new

-- a writer into memory: the bytes that it took, how many it can take, and how many of its calls failed
pub record Filled : Type 0 where
  pub bytes : List ℕ
  pub capacity : ℕ
  pub failures : ℕ

-- which call fails: none any more, or the one that comes after so many others
abbrev pub calls_before : ℕ → Option ℕ
calls_before zero = None
calls_before (suc m) = Some m

-- the same once a call was made
abbrev pub after_call : Option ℕ → Option ℕ
after_call None = None
after_call (Some zero) = None
after_call (Some (suc n)) = Some n

-- how many failures the next call adds
abbrev pub fails_now : Option ℕ → ℕ
fails_now None = 0
fails_now (Some zero) = 1
fails_now (Some (suc n)) = 0

-- how many failures all calls to come add
abbrev pub failures_to_come : Option ℕ → ℕ
failures_to_come None = 0
failures_to_come (Some _) = 1
