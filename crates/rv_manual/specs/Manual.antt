-- What names mean. They are read in either letter case.
use Rattle.std.specs.Prelude.{ℕ, List, [], ◌∷◌, take, codes, Option, Some, None, if◌then◌else◌}
use Rattle.std.specs.Str.{str_eq_ignore_ascii_case}
use Rattle.rv_manual.specs.declared.entry.Source.{Source}

-- what is said of a name: the name as it is written, where it is defined, and the sentence
pub record Entry : Type 0 where
  pub name : List ℕ
  pub source : Source
  pub sentence : List ℕ

abbrev pub entry_value : List ℕ → Source → List ℕ → Entry
entry_value name source sentence = record { name = name; source = source; sentence = sentence }

-- a row of a table: some names, where they are defined, and the sentence
pub record Row : Type 0 where
  pub names : List (List ℕ)
  pub source : Source
  pub sentence : List ℕ

abbrev pub row_value : List (List ℕ) → Source → List ℕ → Row
row_value names source sentence = record { names = names; source = source; sentence = sentence }

-- the first of some names that is the text, but for letter case
abbrev pub first_name : List (List ℕ) → List ℕ → Option (List ℕ)
first_name [] text = None
first_name (name ∷ names) text = if str_eq_ignore_ascii_case name text then Some name else first_name names text

-- the first of two that is there
abbrev pub either : {A : Type 0} → Option A → Option A → Option A
either (Some a) other = Some a
either None other = other

-- the entry of the name in the row, if it is one of its names
abbrev pub entry_at : Option (List ℕ) → Row → Option Entry
entry_at None row = None
entry_at (Some name) row = Some (entry_value name row.source row.sentence)

-- the entry of the first row that has the name
abbrev pub entry_in : List Row → List ℕ → Option Entry
entry_in [] text = None
entry_in (row ∷ rows) text = either (entry_at (first_name row.names text) row) (entry_in rows text)

-- a name without what stands behind `.cfi_`: all directives whose names begin so have one row
abbrev pub without_ending : List ℕ → List ℕ
without_ending text = if str_eq_ignore_ascii_case (codes ".cfi_") (take 5 text) then take 5 text else text
