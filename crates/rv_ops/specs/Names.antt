-- Lists of names, which are read in either letter case.
use Rattle.std.specs.Prelude.{ℕ, List, [], ◌∷◌, Option, Some, None, if◌then◌else◌, nat_eq}
use Rattle.std.specs.Str.{str_eq_ignore_ascii_case}

-- what stands beside the first of the names that is the text, but for letter case
abbrev pub first_named : {A : Type 0} → List (A × List ℕ) → List ℕ → Option A
first_named [] text = None
first_named (row ∷ rows) text =
    if str_eq_ignore_ascii_case row.1 text then Some row.0 else first_named rows text

-- the first of the names that stand beside the number
abbrev pub first_name : List (ℕ × List ℕ) → ℕ → Option (List ℕ)
first_name [] n = None
first_name (row ∷ rows) n = if nat_eq row.0 n then Some row.1 else first_name rows n
