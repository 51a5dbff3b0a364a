-- Where definitions can stand.
use Rattle.std.proofs.Common.{◌≡◌, ℕ, ◌+◌, ◌<◌, ◌≤◌, Bool, true, false, List, [], ◌∷◌, length, bytes_eq, if◌then◌else◌, true≢false, arith, ap, eqb-true, refl}
use Rattle.rv_stmt.specs.declared.statement.Body.{Body}
use Rattle.rv_stmt.specs.declared.statement.Body.TheVariants.{Equ as EquBody}
use Rattle.rv_stmt.specs.declared.statement.Stmt.{Stmt}
use Rattle.rv_stmt.specs.LabelNames.{Label}
use Rattle.rv_list.specs.declared.view.DefinitionPlace.{DefinitionPlace}
use Rattle.rv_list.specs.declared.view.DefinitionPlace.TheVariants.{Nowhere, Label as ByLabel, Equ}
use Rattle.rv_program.specs.Definitions.{defines_symbol, place_among_labels, place_in_body, or_place, place_in_statement, first_place, definition_of, is_defined, is_equ_on}
use Rattle.rv_program.specs.Program.{Program}
use Rattle.rv_program.specs.internal.Defining.{IsOn}

-- on one of the lines from `from` to before `to`
abbrev pub IsWithin : (from to : ℕ) → DefinitionPlace → Type 0
IsWithin from to Nowhere = Unit {0}
IsWithin from to (ByLabel line index) = (from ≤ line) × (line < to)
IsWithin from to (Equ line) = (from ≤ line) × (line < to)

within-wider : (a b c d : ℕ) (place : DefinitionPlace) → c ≤ a → b ≤ d → IsWithin a b place → IsWithin c d place
within-wider a b c d Nowhere l m w = tt
within-wider a b c d (ByLabel line index) l m w = (omega (arith, l, w.0), omega (arith, m, w.1))
within-wider a b c d (Equ line) l m w = (omega (arith, l, w.0), omega (arith, m, w.1))

within-or : (a b : ℕ) (place other : DefinitionPlace) → IsWithin a b place → IsWithin a b other → IsWithin a b (or_place place other)
within-or a b Nowhere other w v = v
within-or a b (ByLabel line index) other w v = w
within-or a b (Equ line) other w v = w

pub within-labels : (line index : ℕ) (ls : List Label) (name : List ℕ) → IsWithin line (line + 1) (place_among_labels line index ls name)
within-labels line index [] name = tt
within-labels line index (l ∷ ls) name = at (defines_symbol l.name name) (within-labels line (index + 1) ls name)
  where
    at : (b : Bool) → IsWithin line (line + 1) (place_among_labels line (index + 1) ls name) → IsWithin line (line + 1) (if b then ByLabel line index else place_among_labels line (index + 1) ls name)
    at true w = (omega arith, omega arith)
    at false w = w

within-body : (line : ℕ) (body : Body) (name : List ℕ) → IsWithin line (line + 1) (place_in_body line body name)
within-body line (EquBody d) name = at (bytes_eq d.symbol name)
  where
    at : (b : Bool) → IsWithin line (line + 1) (if b then Equ line else Nowhere)
    at true = (omega arith, omega arith)
    at false = tt
within-body line _ name = tt

-- on the line of the statement
pub statement-within : (line : ℕ) (s : Stmt) (name : List ℕ) → IsWithin line (line + 1) (place_in_statement line s name)
statement-within line s name =
    within-or line (line + 1) (place_among_labels line 0 s.labels name) (place_in_body line s.body name) (within-labels line 0 s.labels name) (within-body line s.body name)

-- on one of the lines
pub within-lines : (line : ℕ) (program : Program) (name : List ℕ) → IsWithin line (line + length program) (first_place line program name)
within-lines line [] name = tt
within-lines line (s ∷ ss) name =
    within-or line (line + length (s ∷ ss)) (place_in_statement line s name) (first_place (line + 1) ss name)
    (within-wider line (line + 1) line (line + length (s ∷ ss)) (place_in_statement line s name) (omega arith) (omega arith)
    (statement-within line s name))
    (within-wider (line + 1) (line + 1 + length ss) line (line + length (s ∷ ss)) (first_place (line + 1) ss name) (omega arith) (omega arith) (within-lines (line + 1) ss name))

-- a definition stands on a line of the text
pub definition-within : (program : Program) (name : List ℕ) → IsWithin 1 (1 + length program) (definition_of program name)
definition-within program name = within-lines 1 program name

-- on the line alone
pub within-on : (line : ℕ) (place : DefinitionPlace) → IsWithin line (line + 1) place → IsOn line place
within-on line Nowhere within = tt
within-on line (ByLabel l index) within = omega (arith, within.0, within.1)
within-on line (Equ l) within = omega (arith, within.0, within.1)

pub is_equ_on-true : (line : ℕ) (place : DefinitionPlace) → is_equ_on line place ≡ true → place ≡ Equ line
is_equ_on-true line Nowhere h = absurd (let no : false ≡ true = h in cc)
is_equ_on-true line (ByLabel l index) h = absurd (let no : false ≡ true = h in cc)
is_equ_on-true line (Equ l) h = ap Equ (eqb-true l line h)

pub undefined : (place : DefinitionPlace) → is_defined place ≡ false → place ≡ Nowhere
undefined Nowhere h = refl
undefined (ByLabel line index) h = absurd (true≢false h)
undefined (Equ line) h = absurd (true≢false h)
