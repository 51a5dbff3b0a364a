-- What names give on a line: by the rows of the text it is what the definitions say.
use Rattle.std.proofs.Common.{◌≡◌, ℕ, zero, suc, ◌+◌, ◌-◌, ◌≤◌, Bool, true, false, List, [], length, get_or, if◌then◌else◌, nat_le, pos, Option, Some, None, ok_or, Result, Ok, Err, arith, ap, ◌∙◌, refl}
use Rattle.std.proofs.lemmas.Bool.{leb-true}
use Rattle.std.proofs.Math.Path.{fun_ext}
use Rattle.rv_expr.specs.declared.faults.ValueFault.{ValueFault}
use Rattle.rv_expr.specs.declared.faults.ValueFault.TheVariants.{Undefined, LaterEqu, NoPartner}
use Rattle.rv_expr.specs.declared.tree.Direction.{Direction}
use Rattle.rv_expr.specs.declared.tree.Direction.TheVariants.{Back, Forward}
use Rattle.rv_expr.specs.declared.tree.LabelReference.{LabelReference}
use Rattle.rv_expr.specs.declared.tree.LabelReference.TheVariants as reference
use Rattle.rv_expr.specs.Value.{Environment}
use Rattle.rv_stmt.specs.Readings.{and_then}
use Rattle.rv_fix.specs.Values.{Entry}
use Rattle.rv_list.specs.declared.view.DefinitionPlace.{DefinitionPlace}
use Rattle.rv_list.specs.declared.view.DefinitionPlace.TheVariants.{Nowhere, Label as ByLabel, Equ}
use Rattle.rv_list.specs.declared.view.LinePlace.{LinePlace}
use Rattle.rv_program.specs.declared.text_rows.TextRows.{TextRows}
use Rattle.rv_program.specs.Definitions.{definition_of}
use Rattle.rv_program.specs.Layout.{address_at, place_at}
use Rattle.rv_program.specs.internal.LineNames.{address_of_found, label_line_in, names_by}
use Rattle.rv_program.specs.internal.Locals.{local_line_in}
use Rattle.rv_program.specs.internal.PairedHighs.{high_in}
use Rattle.rv_program.specs.Pairs.{paired_high_of}
use Rattle.rv_program.specs.Program.{Program, last_line, first_line}
use Rattle.rv_program.specs.References.{has_local, local_line, line_of_place, label_line, by_definition, address_of_line, names_on, no_pairs, equ_value, symbol_through}
use Rattle.rv_program.specs.internal.Rows.{in_row, ArePlaces, AreHighs}
use Rattle.rv_program.specs.internal.TextRows.{no_place, address_in, program_in, AreTextRows, AreEquValuesIn, AreHighsIn, address_in_text}
use Rattle.rv_program.specs.lemmas.DefinitionLaws.{IsWithin, definition-within}
use Rattle.rv_program.specs.lemmas.EquLaws.{equ_value-stays}
use Rattle.rv_program.specs.lemmas.LocalLines.{local_line-row}
use Rattle.rv_program.specs.lemmas.Programs.{at-line}

-- Rows by lines

pub address_in-is : (base : ℕ) (program : Program) (places : List LinePlace) (line : ℕ) → ArePlaces base program places → 1 ≤ line → line ≤ length program → address_in places line ≡ address_at base program line
address_in-is base program places line are first last =
    ap (λ row. (get_or row (line - 1) no_place).address) are
    ∙ ap (λ place. place.address) (at-line (place_at base program) (length program) line no_place first last)

-- Local labels are on lines of the text

abbrev pub IsLine : (n : ℕ) → Option ℕ → Type 0
IsLine n None = Unit {0}
IsLine n (Some line) = (1 ≤ line) × (line ≤ n)

last_line-is : (test : ℕ → Bool) (i n : ℕ) → i ≤ n → IsLine n (last_line test i)
last_line-is test zero n l = tt
last_line-is test (suc i) n l = at (test (suc i)) (last_line-is test i n (omega (arith, l)))
  where
    at : (b : Bool) → IsLine n (last_line test i) → IsLine n (if b then Some (suc i) else last_line test i)
    at true w = (omega arith, l)
    at false w = w

first_line-is : (test : ℕ → Bool) (i count n : ℕ) → i + count ≤ n → IsLine n (first_line test i count)
first_line-is test i zero n l = tt
first_line-is test i (suc count) n l = at (test (suc i)) (first_line-is test (suc i) count n (omega (arith, l)))
  where
    at : (b : Bool) → IsLine n (first_line test (suc i) count) → IsLine n (if b then Some (suc i) else first_line test (suc i) count)
    at true w = (omega arith, omega (arith, l))
    at false w = w

pub local_line-is : (program : Program) (i number : ℕ) (direction : Direction) → i ≤ length program → IsLine (length program) (local_line program i number direction)
local_line-is program i number Back l = last_line-is (has_local program number) i (length program) l
local_line-is program i number Forward l = first_line-is (has_local program number) i (length program - i) (length program) (omega (arith, l))

-- High halves that `%pcrel_lo` takes

pub paired-is : (base : ℕ) (program : Program) (highs : List Entry) (line : ℕ) → AreHighs base program highs → 1 ≤ line → line ≤ length program → high_in highs line ≡ paired_high_of base program line
paired-is base program highs line held first last =
    held.each (line - 1) (omega (arith, first, last)) ∙ ap (paired_high_of base program) (let e : suc (line - 1) ≡ line = omega (arith, first) in e)

-- Names

address-found : (base : ℕ) (program : Program) (places : List LinePlace) (found : Option ℕ) → ArePlaces base program places → IsLine (length program) found → address_of_found places found ≡ address_of_line base program found
address-found base program places None are within = refl
address-found base program places (Some line) are within =
    ap (λ address. Ok (pos address)) (address_in-is base program places line are within.0 within.1)

symbol-by : (base : ℕ) (program : Program) (places : List LinePlace) (k usable : ℕ) (name : List ℕ) → ArePlaces base program places → usable ≤ k → by_definition (address_in places) usable (definition_of program name) (equ_value base program k name) ≡ symbol_through base program usable name
symbol-by base program places k usable name are l = at (definition_of program name) refl (definition-within program name)
  where
    at : (place : DefinitionPlace) → definition_of program name ≡ place → IsWithin 1 (1 + length program) place → by_definition (address_in places) usable place (equ_value base program k name) ≡ by_definition (address_at base program) usable place (equ_value base program usable name)
    at Nowhere e w = refl
    at (ByLabel line index) e w = ap (λ address. Ok (pos address)) (address_in-is base program places line are w.0 (omega (arith, w.1)))
    at (Equ line) e w = by_line (nat_le line usable) refl
      where
        by_line : (b : Bool) → nat_le line usable ≡ b → by_definition (address_in places) usable (Equ line) (equ_value base program k name) ≡ by_definition (address_at base program) usable (Equ line) (equ_value base program usable name)
        by_line true g = ap (by_definition (address_at base program) usable (Equ line)) (equ_value-stays base program name line usable k e (leb-true line usable g) l)
        by_line false g = rw g refl

-- what a symbol gives by the rows of a text
pub symbol_by-rows : (text : TextRows) (row : List Entry) (k usable : ℕ) (name : List ℕ) → AreTextRows text → AreEquValuesIn text k row → usable ≤ k → by_definition (address_in text.places.now) usable (definition_of (program_in text) name) (in_row text.names.now row (Err LaterEqu) name) ≡ symbol_through text.base (program_in text) usable name
symbol_by-rows text row k usable name are values less =
    ap (λ f. by_definition (address_in text.places.now) usable (definition_of (program_in text) name) (f name)) values.each
    ∙ symbol-by text.base (program_in text) text.places.now k usable name are.placed less

-- what `%pcrel_lo` takes by the line of a label
pub high-by : (within : Result ℕ ValueFault) (f g : ℕ → Entry) → ((line : ℕ) → within ≡ Ok line → f line ≡ g line) → and_then within f ≡ and_then within g
high-by (Ok line) f g same = same line refl
high-by (Err fault) f g same = refl

pub label_line-within : (program : Program) (i : ℕ) (label : LabelReference) (line : ℕ) → i ≤ length program → label_line program i label ≡ Ok line → (1 ≤ line) × (line ≤ length program)
label_line-within program i (reference.Symbol name) line l h = at (definition_of program name) (definition-within program name) h
  where
    at : (place : DefinitionPlace) → IsWithin 1 (1 + length program) place → line_of_place place ≡ Ok line → (1 ≤ line) × (line ≤ length program)
    at Nowhere w g = absurd (let no : Err Undefined ≡ Ok line = g in cc)
    at (ByLabel x index) w g = let is : ◌≡◌ {A = Result ℕ ValueFault} (Ok x) (Ok line) = g in let e : x ≡ line = cc in (omega (arith, w.0, e), omega (arith, w.1, e))
    at (Equ x) w g = absurd (let no : Err NoPartner ≡ Ok line = g in cc)
label_line-within program i (reference.Local number direction) line l h =
    at (local_line program i number direction) (local_line-is program i number direction l) h
  where
    at : (found : Option ℕ) → IsLine (length program) found → ok_or found Undefined ≡ Ok line → (1 ≤ line) × (line ≤ length program)
    at None w g = absurd (let no : Err Undefined ≡ Ok line = g in cc)
    at (Some x) w g = let is : ◌≡◌ {A = Result ℕ ValueFault} (Ok x) (Ok line) = g in let e : x ≡ line = cc in (omega (arith, w.0, e), omega (arith, w.1, e))
label_line-within program i reference.Here line l h = absurd (let no : Err Undefined ≡ Ok line = h in cc)

label_line-same : (text : TextRows) (line : ℕ) (label : LabelReference) → AreTextRows text → line ≤ length (program_in text) → label_line_in text line label ≡ label_line (program_in text) line label
label_line-same text line (reference.Symbol name) are last = ap (λ f. line_of_place (f name)) are.defined.each
label_line-same text line (reference.Local number direction) are last =
    ap (λ found. ok_or found Undefined) (local_line-row (program_in text) text.locals.now line number direction are.located last)
label_line-same text line reference.Here are last = refl

same_names : (symbol symbol' : List ℕ → Entry) (local local' : ℕ → Direction → Entry) (here here' : Entry) (high high' : LabelReference → Entry) → symbol ≡ symbol' → local ≡ local' → here ≡ here' → high ≡ high' → ◌≡◌ {A = Environment} (record { symbol = symbol; local = local; here = here; paired_high = high }) (record { symbol = symbol'; local = local'; here = here'; paired_high = high' })
same_names symbol symbol' local local' here here' high high' a b c d = cc

-- the address of a local label by the rows of a text
pub local_by-rows : (text : TextRows) (line number : ℕ) (direction : Direction) → AreTextRows text → line ≤ length (program_in text) → address_of_found text.places.now (local_line_in text.locals.now line number direction) ≡ address_of_line text.base (program_in text) (local_line (program_in text) line number direction)
local_by-rows text line number direction are last =
    let program : Program = program_in text in
    ap (address_of_found text.places.now) (local_line-row program text.locals.now line number direction are.located last)
    ∙ address-found text.base program text.places.now (local_line program line number direction) are.placed (local_line-is program line number direction last)

-- what names give by the rows of a text, where the `.equ`s of the first lines may be used and the row of their values has
-- these
names_by-rows : (text : TextRows) (row highs : List Entry) (k line usable : ℕ) (high : ℕ → Entry) → AreTextRows text → AreEquValuesIn text k row → usable ≤ k → line ≤ length (program_in text) → 1 ≤ line → ((l : ℕ) → 1 ≤ l → l ≤ length (program_in text) → high_in highs l ≡ high l) → names_by text row highs line usable (address_in_text text line) ≡ names_on text.base (program_in text) line (symbol_through text.base (program_in text) usable) high
names_by-rows text row highs k line usable high are values less last first same =
    let program : Program = program_in text in
    same_names _ _ _ _ _ _ _ _
    (fun_ext (λ name.
    ap (λ f. by_definition (address_in text.places.now) usable (f name) (in_row text.names.now row (Err LaterEqu) name)) are.defined.each
    ∙ symbol_by-rows text row k usable name are values less))
    (fun_ext (λ number. fun_ext (λ direction. local_by-rows text line number direction are last)))
    refl
    (fun_ext (λ label.
    ap (λ found. and_then found (high_in highs)) (label_line-same text line label are last)
    ∙ high-by (label_line program line label) (high_in highs) high
    (λ l e. let within = label_line-within program line label l last e in same l within.0 within.1)))

-- where there are no pairs
pub references_by-rows : (text : TextRows) (row : List Entry) (k line usable : ℕ) → AreTextRows text → AreEquValuesIn text k row → usable ≤ k → line ≤ length (program_in text) → 1 ≤ line → names_by text row [] line usable (address_in_text text line) ≡ names_on text.base (program_in text) line (symbol_through text.base (program_in text) usable) no_pairs
references_by-rows text row k line usable are values less last first =
    names_by-rows text row [] k line usable no_pairs are values less last first (λ l a b. refl)

pub names_by-pairs : (text : TextRows) (row highs : List Entry) (k line usable : ℕ) → AreTextRows text → AreEquValuesIn text k row → AreHighsIn text highs → usable ≤ k → line ≤ length (program_in text) → 1 ≤ line → names_by text row highs line usable (address_in_text text line) ≡ names_on text.base (program_in text) line (symbol_through text.base (program_in text) usable) (paired_high_of text.base (program_in text))
names_by-pairs text row highs k line usable are values paired less last first =
    names_by-rows text row highs k line usable (paired_high_of text.base (program_in text)) are values less last first
    (λ l a b. paired-is text.base (program_in text) highs l paired a b)
