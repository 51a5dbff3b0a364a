-- What names give on the lines of a text. (docs/LANGUAGE.md, Symbols; Local labels)
use Rattle.std.specs.Prelude.{ℕ, zero, suc, ◌-◌, ◌==◌, pos, nat_le, Bool, false, ◌||◌, List, [], ◌∷◌, length, Option, Some, None, ok_or, Result, Ok, Err, if◌then◌else◌}
use Rattle.rv_expr.specs.declared.faults.ValueFault.{ValueFault}
use Rattle.rv_expr.specs.declared.faults.ValueFault.TheVariants.{Undefined, LaterEqu, FaultyEqu, NoPartner}
use Rattle.rv_expr.specs.declared.tree.Direction.{Direction}
use Rattle.rv_expr.specs.declared.tree.Direction.TheVariants.{Back, Forward}
use Rattle.rv_expr.specs.declared.tree.LabelReference.{LabelReference}
use Rattle.rv_expr.specs.declared.tree.LabelReference.TheVariants as reference
use Rattle.rv_expr.specs.Value.{Environment}
use Rattle.rv_stmt.specs.declared.statement.Body.{Body}
use Rattle.rv_stmt.specs.declared.statement.Body.TheVariants as body
use Rattle.rv_stmt.specs.LabelNames.{Label, LabelName}
use Rattle.rv_stmt.specs.LabelNames as label
use Rattle.rv_stmt.specs.Readings.{and_then}
use Rattle.rv_fix.specs.Values.{Entry}
use Rattle.rv_list.specs.declared.view.DefinitionPlace.{DefinitionPlace}
use Rattle.rv_list.specs.declared.view.DefinitionPlace.TheVariants.{Nowhere, Label as ByLabel, Equ}
use Rattle.rv_program.specs.Constants.{defined_value}
use Rattle.rv_program.specs.Definitions.{definition_of, is_equ_on}
use Rattle.rv_program.specs.Layout.{address_at}
use Rattle.rv_program.specs.Program.{Program, statement_at, body_at, last_line, first_line}

-- Local labels

abbrev pub is_local : (number : ℕ) → LabelName → Bool
is_local number (label.Local k) = k == number
is_local number (label.Symbol symbol) = false

abbrev pub among_local : (number : ℕ) → List Label → Bool
among_local number [] = false
among_local number (l ∷ ls) = is_local number l.name || among_local number ls

-- a line has the local label
abbrev pub has_local : Program → (number i : ℕ) → Bool
has_local program number i = among_local number (statement_at program i).labels

-- the line of a local label as line i names it: the last one up to this line, or the first one after it
abbrev pub local_line : Program → (i number : ℕ) → Direction → Option ℕ
local_line program i number Back = last_line (has_local program number) i
local_line program i number Forward = first_line (has_local program number) i (length program - i)

-- Labels by their lines

abbrev pub line_of_place : DefinitionPlace → Result ℕ ValueFault
line_of_place Nowhere = Err Undefined
line_of_place (ByLabel line index) = Ok line
line_of_place (Equ line) = Err NoPartner

-- the line of the label that `%pcrel_lo` names on line i. `.` is no label, and the symbol of an `.equ` has no line to pair
-- with.
abbrev pub label_line : Program → (i : ℕ) → LabelReference → Result ℕ ValueFault
label_line program i (reference.Symbol name) = line_of_place (definition_of program name)
label_line program i (reference.Local number direction) = ok_or (local_line program i number direction) Undefined
label_line program i reference.Here = Err Undefined

-- Names

-- whoever uses the symbol of a faulty `.equ` has a fault of its own
abbrev pub or_faulty_equ : Entry → Entry
or_faulty_equ (Ok v) = Ok v
or_faulty_equ (Err fault) = Err FaultyEqu

-- what a symbol gives where the `.equ`s of the first k lines may be used, by its definition; `value` is that of its `.equ`
abbrev pub by_definition : (address : ℕ → ℕ) → (k : ℕ) → DefinitionPlace → (value : Entry) → Entry
by_definition address k Nowhere value = Err Undefined
by_definition address k (ByLabel line index) value = Ok (pos (address line))
by_definition address k (Equ line) value = if nat_le line k then or_faulty_equ value else Err LaterEqu

abbrev pub address_of_line : (base : ℕ) → Program → Option ℕ → Entry
address_of_line base program None = Err Undefined
address_of_line base program (Some line) = Ok (pos (address_at base program line))

-- what names give on line i, where symbols give this, and `%pcrel_lo` of a label takes this from the label's line
abbrev pub names_on : (base : ℕ) → Program → (i : ℕ) → (symbol : List ℕ → Entry) → (paired_high : ℕ → Entry) → Environment
names_on base program i symbol paired_high = record {
  symbol = symbol;
  local = λ number direction. address_of_line base program (local_line program i number direction);
  here = Ok (pos (address_at base program i));
  paired_high = λ label. and_then (label_line program i label) paired_high;
}

-- for expressions, in which `%pcrel_lo` does not stand
abbrev pub no_pairs : ℕ → Entry
no_pairs line = Err NoPartner

-- the value of a name's `.equ`, if that is on one of the first k lines
abbrev pub equ_value : (base : ℕ) → Program → (k : ℕ) → (name : List ℕ) → Entry
equ_value base program zero name = Err LaterEqu
equ_value base program (suc k) name =
    if is_equ_on (suc k) (definition_of program name)
    then defined_value
    (names_on base program (suc k) (λ m. by_definition (address_at base program) k (definition_of program m) (equ_value base program k m)) no_pairs)
    (body_at program (suc k))
    else equ_value base program k name

-- what a symbol gives where the `.equ`s of the first k lines may be used
abbrev pub symbol_through : (base : ℕ) → Program → (k : ℕ) → (name : List ℕ) → Entry
symbol_through base program k name =
    by_definition (address_at base program) k (definition_of program name) (equ_value base program k name)

-- an `.equ` may use those of earlier lines, and any other line may use all
abbrev pub usable_equs : Program → (i : ℕ) → Body → ℕ
usable_equs program i (body.Equ d) = i - 1
usable_equs program i b = length program

-- what a symbol gives on line i
abbrev pub reference_of : (base : ℕ) → Program → (i : ℕ) → (name : List ℕ) → Entry
reference_of base program i name = symbol_through base program (usable_equs program i (body_at program i)) name

-- what names give in the expressions of line i
abbrev pub references_at : (base : ℕ) → Program → (i : ℕ) → Environment
references_at base program i = names_on base program i (reference_of base program i) no_pairs
