-- What names mean. (docs/EDITORS.md, Names)
use Rattle.std.specs.Prelude.{ℕ, zero, suc, ◌+◌, ◌-◌, ◌==◌, ◌&&◌, nat_le, nat_lt, min, bytes_eq, Bool, true, false, List, [], ◌∷◌, length, take, slice_index, Option, Some, None, option_map, if◌then◌else◌}
use Rattle.std.specs.Char.{is_ascii_digit}
use Rattle.std.specs.List.{list_any}
use Rattle.rv_expr.specs.TokenRoles.{label_number}
use Rattle.rv_stmt.specs.LabelNames as labels
use Rattle.rv_list.specs.declared.view.DefinitionPlace.{DefinitionPlace}
use Rattle.rv_list.specs.declared.view.DefinitionPlace.TheVariants as place
use Rattle.rv_list.specs.Shown.{Shown, is_label, is_equ}
use Rattle.rv_language.specs.declared.meaning.LocalLabel.{LocalLabel}
use Rattle.rv_language.specs.declared.meaning.Meaning.{Meaning}
use Rattle.rv_language.specs.declared.meaning.Meaning.TheVariants as meaning
use Rattle.rv_language.specs.declared.meaning.Written.{Written}
use Rattle.rv_language.specs.declared.meaning.Written.TheVariants as written
use Rattle.rv_language.specs.declared.names.Standing.{Standing}
use Rattle.rv_language.specs.declared.names.Standing.TheVariants as standing

-- a name as it is written: a symbol, a local label, or a reference to the last local label of a number on the line or an earlier one, or to the
-- first one on a later line
pub data Name : Type 0 where
  Symbol : (name : List ℕ) → Name
  Label : (number : ℕ) → Name
  Back : (number : ℕ) → Name
  Forward : (number : ℕ) → Name

abbrev pub name_lent : Written → Name
name_lent (written.Symbol name) = Symbol name.now
name_lent (written.Label number) = Label number
name_lent (written.Back number) = Back number
name_lent (written.Forward number) = Forward number

-- No symbol begins with a digit.
abbrev pub is_local : List ℕ → Bool
is_local [] = false
is_local (b ∷ bs) = is_ascii_digit b

-- the number of a local label, and the letter of a reference to it
abbrev pub local_name : (letter : ℕ) → (digits name : List ℕ) → Option Name
local_name letter digits name =
    if letter == 0x62 then option_map Back (label_number digits)
    else (if letter == 0x66 then option_map Forward (label_number digits)
    else option_map Label (label_number name))

-- how a name is written
abbrev pub name_of : List ℕ → Option Name
name_of name =
    if is_local name then local_name (slice_index name (length name - 1)) (take (length name - 1) name) name
    else Some (Symbol name)

-- what a name means: a symbol, or a local label
pub data Meant : Type 0 where
  SymbolMeant : (name : List ℕ) → Meant
  LocalMeant : LocalLabel → Meant

abbrev pub meant : Meaning → Meant
meant (meaning.Symbol name) = SymbolMeant name.now
meant (meaning.Local label) = LocalMeant label

-- a name of a line means a local label: it is the label, or no other label of the number stands between both
abbrev pub means_local : LocalLabel → (line : ℕ) → Name → Bool
means_local label line (Symbol name) = false
means_local label line (Label number) = number == label.number && line == label.line
means_local label line (Back number) = number == label.number && (nat_le label.line line && nat_lt line label.behind)
means_local label line (Forward number) = number == label.number && (nat_le label.before line && nat_lt line label.line)

abbrev pub is_symbol : (symbol : List ℕ) → Name → Bool
is_symbol symbol (Symbol name) = bytes_eq name symbol
is_symbol symbol name = false

-- a name of a line, by its number from 1 on, has a meaning
abbrev pub means : Meant → (line : ℕ) → Name → Bool
means (SymbolMeant symbol) line name = is_symbol symbol name
means (LocalMeant label) line name = means_local label line name

-- what stands there is a name with a meaning
abbrev pub means_written : Meant → (line : ℕ) → Option Name → Bool
means_written meaning line None = false
means_written meaning line (Some name) = means meaning line name

-- Local labels

abbrev pub is_number : (number : ℕ) → labels.LabelName → Bool
is_number number (labels.Symbol name) = false
is_number number (labels.Local n) = n == number

abbrev pub is_local_label : (number : ℕ) → labels.Label → Bool
is_local_label number label = is_number number label.name

-- a line has a local label of this number
abbrev pub has_local : Shown → (number line : ℕ) → Bool
has_local shown number line = list_any (is_local_label number) (shown.line line).stmt.labels

-- the last of the first `at` lines with a property, or 0
abbrev pub last_up_to : (ℕ → Bool) → (at : ℕ) → ℕ
last_up_to has zero = 0
last_up_to has (suc n) = if has (suc n) then suc n else last_up_to has n

-- the first line with a property of so many after the first `at`, or 2^32 - 1
abbrev pub first_after : (ℕ → Bool) → (at count : ℕ) → ℕ
first_after has at zero = 4294967295
first_after has at (suc n) = if has (at + 1) then at + 1 else first_after has (at + 1) n

abbrev pub local_before : Shown → (number at : ℕ) → ℕ
local_before shown number at = last_up_to (has_local shown number) (min at shown.count)

abbrev pub local_behind : Shown → (number at : ℕ) → ℕ
local_behind shown number at = first_after (has_local shown number) at (shown.count - at)

-- the local label of a number on a line, which has one
abbrev pub local_on : Shown → (number line : ℕ) → Option Meant
local_on shown number line =
    if line == 0 then None
    else (if line == 4294967295 then None
    else Some (LocalMeant (record { number = number; line = line; before = local_before shown number (line - 1); behind = local_behind shown number line })))

-- what a name means that is written on a line, by its number from 1 on
abbrev pub meaning_of : Shown → (line : ℕ) → Name → Option Meant
meaning_of shown line (Symbol name) = Some (SymbolMeant name)
meaning_of shown line (Label number) = local_on shown number line
meaning_of shown line (Back number) = local_on shown number (local_before shown number line)
meaning_of shown line (Forward number) = local_on shown number (local_behind shown number line)

-- Definitions

abbrev pub defines_symbol : (line : ℕ) → Standing → DefinitionPlace → Bool
defines_symbol line (standing.Label index) place = is_label line index place
defines_symbol line standing.Equ place = is_equ line place
defines_symbol line standing.Use place = false

-- a name of a line is a definition: the first one of a symbol, or a local label
abbrev pub is_definition : Shown → (line : ℕ) → Name → Standing → Bool
is_definition shown line (Symbol name) standing = defines_symbol line standing (shown.definition name)
is_definition shown line (Label number) standing = true
is_definition shown line name standing = false

abbrev pub defines_written : Shown → (line : ℕ) → Standing → Option Name → Bool
defines_written shown line standing None = false
defines_written shown line standing (Some name) = is_definition shown line name standing

abbrev pub line_of_place : DefinitionPlace → ℕ
line_of_place (place.Label line index) = line
line_of_place (place.Equ line) = line
line_of_place place.Nowhere = 0

-- the line of a definition, or 0
abbrev pub definition_line : Shown → Meant → ℕ
definition_line shown (LocalMeant label) = label.line
definition_line shown (SymbolMeant name) = line_of_place (shown.definition name)
