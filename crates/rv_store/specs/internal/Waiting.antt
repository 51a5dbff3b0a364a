-- Lines at the end of a text that wait for a high half: `%pcrel_lo` of a label on one of them takes that of the next line with bytes in
-- their section, which the text has not.
use Rattle.std.specs.Prelude.{◌≡◌, ℕ, ◌-◌, ◌<◌, ◌≤◌, ◌==◌, ◌⊎◌, nat_le, nat_lt, Bool, true, false, not, ◌&&◌, List, length, get_or, Option, Some, None, Result, Ok, Err, if◌then◌else◌}
use Rattle.std.specs.List.{list_any}
use Rattle.std.specs.Option.{is_some}
use Rattle.rv_expr.specs.declared.faults.ValueFault.{ValueFault}
use Rattle.rv_expr.specs.declared.faults.ValueFault.TheVariants.{NoPartner}
use Rattle.rv_stmt.specs.declared.statement.Stmt.{Stmt}
use Rattle.rv_layout.specs.Sections.{section_number}
use Rattle.rv_fix.specs.Values.{Entry}
use Rattle.rv_list.specs.declared.view.LinePlace.{LinePlace}
use Rattle.rv_program.specs.Definitions.{defines_symbol, definition_of}
use Rattle.rv_program.specs.Layout.{section_at}
use Rattle.rv_program.specs.Pairs.{high_at, has_bytes_in, next_with_bytes}
use Rattle.rv_program.specs.Program.{Program, program_of, statement_at, body_at}
use Rattle.rv_program.specs.References.{among_local, has_local, line_of_place}
use Rattle.rv_program.specs.Uses.{names_used}
use Rattle.rv_program.specs.internal.FirstUses.{Firsts, first_use, AreFirstUses}
use Rattle.rv_program.specs.internal.NameSets.{bucket_of}
use Rattle.rv_program.specs.internal.TextRows.{no_place}

-- line i is in the section, which has no line with bytes from there on
abbrev pub waits_in : Program → (section i : ℕ) → Bool
waits_in p section i = section_number (section_at p i) == section && not (is_some (next_with_bytes p section (i - 1)))

-- it waits for the high half that an edit adds in this section, if it adds one
abbrev pub waits : Program → (section : Option ℕ) → (i : ℕ) → Bool
waits p None i = false
waits p (Some section) i = waits_in p section i

abbrev pub waits_on : Program → (section : Option ℕ) → Result ℕ ValueFault → Bool
waits_on p section (Ok line) = waits p section line
waits_on p section (Err fault) = false

-- a name is the label of a line that waits
abbrev pub is_awaited : Program → (section : Option ℕ) → (name : List ℕ) → Bool
is_awaited p section name = waits_on p section (line_of_place (definition_of p name))

-- Line k of the text q is new. Where it is in the text p, it has the high half that it had there. Behind p it may have one in this section:
-- then no line of p uses a label of a line that waits for it.
pub record KeepsHighs (base : ℕ) (p q : Program) (k : ℕ) (section : Option ℕ) : Type 0 where
  pub within : k ≤ length p → high_at base q k ≡ high_at base p k
  pub others : (t : ℕ) → length p < k → has_bytes_in q t k ≡ true → (high_at base q k ≡ Err NoPartner) ⊎ (section ≡ Some t)
  pub there : (t : ℕ) → section ≡ Some t → (length p < k) × (has_bytes_in q t k ≡ true)
  pub unused : (i : ℕ) → 1 ≤ i → i ≤ length p → list_any (is_awaited p section) (names_used (body_at p i)) ≡ false
  pub local : (number i : ℕ) → 1 ≤ i → i ≤ length p → waits p section i ≡ true → has_local p number i ≡ false

-- no line uses a label of a statement, by the places before which no line uses a name: there are so many lines
pub record IsUnused (firsts : Firsts) (count : ℕ) (s : Stmt) : Type 0 where
  pub local : (number : ℕ) → among_local number s.labels ≡ false
  pub symbols : (name : List ℕ) → list_any (λ l. defines_symbol l.name name) s.labels ≡ true → count ≤ first_use firsts (bucket_of name)

-- the lines of a section after the first lines have no bytes
pub record AreBare (p : Program) (section first : ℕ) : Type 0 where
  pub last : first ≤ length p
  pub before : 1 ≤ first → has_bytes_in p section first ≡ true
  pub none : (i : ℕ) → first < i → i ≤ length p → has_bytes_in p section i ≡ false

-- and no line uses a label of one of them
pub record AreWaiting (lines : List (List ℕ)) (section first : ℕ) : Type 0 where
  pub firsts : Firsts
  pub uses : AreFirstUses lines firsts
  pub bare : AreBare (program_of lines) section first
  pub unused : (i : ℕ) → first < i → i ≤ length lines → (section_number (section_at (program_of lines) i) == section) ≡ true → IsUnused firsts (length lines) (statement_at (program_of lines) i)

-- The row of high halves

-- the place of a line that waits, or that of the last line
abbrev pub waits_there : List LinePlace → (section first i : ℕ) → Bool
waits_there places section first i = nat_le first i && (nat_lt i (length places) && section_number (get_or places i no_place).section == section)

-- a row that holds a high half for these lines, and for the others what it held
pub record HaveHigh (places : List LinePlace) (section first : ℕ) (high : Entry) (old new : List Entry) : Type 0 where
  pub each : (i : ℕ) → get_or new i (Err NoPartner) ≡ (if waits_there places section first i then high else get_or old i (Err NoPartner))
  pub many : length new ≡ length places
  pub more : length old ≤ length new
