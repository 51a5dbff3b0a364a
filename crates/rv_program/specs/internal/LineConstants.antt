-- The constant that a name is on a line, by the rows by names.
use Rattle.std.specs.Prelude.{ℕ, ℤ, nat_lt, List, Option, None, if◌then◌else◌}
use Rattle.rv_list.specs.declared.view.DefinitionPlace.{DefinitionPlace}
use Rattle.rv_list.specs.declared.view.DefinitionPlace.TheVariants.{Nowhere, Equ}
use Rattle.rv_program.specs.internal.Rows.{in_row}

-- the constant that stands in the row, where an `.equ` on an earlier line defines the name
abbrev pub constant_behind : DefinitionPlace → (constant : Option ℤ) → (line : ℕ) → Option ℤ
constant_behind (Equ definition) constant line = if nat_lt definition line then constant else None
constant_behind place constant line = None

abbrev pub constant_on : (names : List (List ℕ)) → (definitions : List DefinitionPlace) → (constants : List (Option ℤ)) → (line : ℕ) → (name : List ℕ) → Option ℤ
constant_on names definitions constants line name =
    constant_behind (in_row names definitions Nowhere name) (in_row names constants None name) line
