-- Lines of a text, by their numbers.
use Rattle.std.proofs.Common.{◌≡◌, Bool, true, false, not, ◌&&◌, ◌||◌, ◌==◌, nat_le, ℕ, ◌-◌, ◌<◌, ◌≤◌, List, [], ◌∷◌, length, get_or, Option, Some, None, true≢false, arith, ap, sym, ◌∙◌, refl}
use Rattle.std.specs.List.{list_any}
use Rattle.std.specs.Option.{is_some}
use Rattle.std.proofs.lemmas.Bool.{leb-true, or_parts}
use Rattle.std.proofs.lemmas.List.{get_or-map}
use Rattle.rv_expr.specs.Tree.{Tree}
use Rattle.rv_ops.specs.declared.op.Op.{Op}
use Rattle.rv_ops.specs.declared.op.Op.TheVariants.{Auipc}
use Rattle.rv_stmt.specs.declared.directive.Definition.{Definition}
use Rattle.rv_stmt.specs.declared.operand.Operand.{Operand}
use Rattle.rv_stmt.specs.declared.operand.OperandValue.{OperandValue}
use Rattle.rv_stmt.specs.declared.operand.OperandValue.TheVariants.{PcrelHigh}
use Rattle.rv_stmt.specs.declared.operand.Role.{Role}
use Rattle.rv_stmt.specs.declared.statement.Body.{Body}
use Rattle.rv_stmt.specs.declared.statement.Body.TheVariants.{Equ, Instr}
use Rattle.rv_stmt.specs.Statement.{statement_of, operands_of}
use Rattle.rv_list.specs.declared.view.LinePlace.{LinePlace}
use Rattle.rv_layout.specs.declared.measured.Measured.{Measured}
use Rattle.rv_program.specs.internal.HighSymbols.{high_symbol_of}
use Rattle.rv_program.specs.Jumps.{target_of}
use Rattle.rv_program.specs.Layout.{shape_at, place_at}
use Rattle.rv_program.specs.Pairs.{pcrel_high_value, pcrel_high_operand, pcrel_high_of, is_high_in, is_high_among, is_high_alone, low_symbol_of}
use Rattle.rv_program.specs.Program.{program_of, no_statement, statement_at, body_at}
use Rattle.rv_program.specs.internal.Rows.{AreShapes, ArePlaces}
use Rattle.rv_program.specs.Text.{is_line}
use Rattle.rv_program.specs.Uses.{is_equ}
use Rattle.rv_program.specs.lemmas.Programs.{at-line, length-for_lines, length-program}

few_bytes : (line : List ℕ) → is_line line ≡ true → length line ≤ 1000
few_bytes line right = at (not (list_any (λ b. b == 10) line)) right
  where
    at : (b : Bool) → (b && nat_le (length line) 1000) ≡ true → length line ≤ 1000
    at true e = leb-true (length line) 1000 e
    at false e = absurd (let no : false ≡ true = e in cc)

-- a line's statement
pub statement_of_line : (lines : List (List ℕ)) (i : ℕ) (line : List ℕ) → i ≤ length lines → 1 ≤ i → line ≡ get_or lines (i - 1) line → statement_at (program_of lines) i ≡ statement_of line
statement_of_line lines i line last first is =
    let within : i - 1 < length lines = omega (arith, last, first) in
    get_or-map statement_of lines (i - 1) line no_statement within ∙ ap statement_of (sym is)

-- a line has no more operands than bytes, and these are few
pub few_operands_of_line : (lines : List (List ℕ)) (i : ℕ) (line : List ℕ) → 1 ≤ i → i ≤ length lines → line ≡ get_or lines (i - 1) line → length (operands_of (statement_of line).body) ≤ length line → is_line line ≡ true → length (operands_of (body_at (program_of lines) i)) ≤ 1000
few_operands_of_line lines i line first last is few right =
    let same : statement_at (program_of lines) i ≡ statement_of line = statement_of_line lines i line last first is in
    let operands : length (operands_of (body_at (program_of lines) i)) ≡ length (operands_of (statement_of line).body) = ap (λ s. length (operands_of s.body)) same in
    let bytes : length line ≤ 1000 = few_bytes line right in
    omega (arith, operands, bytes, few)

-- the row of places has one for each line
pub length_of_places : (base : ℕ) (lines : List (List ℕ)) (row : List LinePlace) → ArePlaces base (program_of lines) row → length row ≡ length lines
length_of_places base lines row are =
    ap length are ∙ length-for_lines (place_at base (program_of lines)) (length (program_of lines)) ∙ length-program lines

-- a line's place
pub place_of_line : (base : ℕ) (lines : List (List ℕ)) (row : List LinePlace) (i : ℕ) (other : LinePlace) → ArePlaces base (program_of lines) row → 1 ≤ i → i ≤ length lines → get_or row (i - 1) other ≡ place_at base (program_of lines) i
place_of_line base lines row i other are first last =
    ap (λ r. get_or r (i - 1) other) are
    ∙ at-line (place_at base (program_of lines)) (length (program_of lines)) i other first (omega (arith, last, length-program lines))

-- the row of shapes has one for each line
pub length_of_shapes : (lines : List (List ℕ)) (row : List Measured) → AreShapes (program_of lines) row → length row ≡ length lines
length_of_shapes lines row are =
    ap length are ∙ length-for_lines (shape_at (program_of lines)) (length (program_of lines)) ∙ length-program lines

-- a line's shape
pub shape_of_line : (lines : List (List ℕ)) (row : List Measured) (i : ℕ) (other : Measured) → AreShapes (program_of lines) row → 1 ≤ i → i ≤ length lines → get_or row (i - 1) other ≡ shape_at (program_of lines) i
shape_of_line lines row i other are first last =
    ap (λ r. get_or r (i - 1) other) are
    ∙ at-line (shape_at (program_of lines)) (length (program_of lines)) i other first (omega (arith, last, length-program lines))

-- a body that is no definition is no `.equ`
pub no_definition : (b : Body) → ((d : Definition) → b ≡ Equ d → ⊥) → is_equ b ≡ false
no_definition (Equ d) other = absurd (other d refl)
no_definition b other = refl

-- a body without a target
pub no_target : (b : Body) → (is_some (target_of b) || is_some (high_symbol_of b)) ≡ false → None ≡ target_of b
no_target b none = at (target_of b) (or_parts (is_some (target_of b)) (is_some (high_symbol_of b)) none).0
  where
    at : (o : Option Tree) → is_some o ≡ false → None ≡ o
    at None h = refl
    at (Some target) h = absurd (true≢false h)

-- a line that does not use `%pcrel_lo` of one symbol alone
pub no_low_symbol : (b : Body) → is_some (low_symbol_of b) ≡ false → None ≡ low_symbol_of b
no_low_symbol b none = at (low_symbol_of b) none
  where
    at : (o : Option (List ℕ)) → is_some o ≡ false → None ≡ o
    at None h = refl
    at (Some name) h = absurd (true≢false h)

-- a line that is no `auipc` with `%pcrel_hi` is none
pub not_alone : (b : Body) → is_some (pcrel_high_of b) ≡ false → false ≡ is_high_alone b
not_alone (Instr i) none = at i.op i.operands none
  where
    given : (value : OperandValue) (role : Role) → is_some (pcrel_high_value value) ≡ false → false ≡ is_high_in value role
    given (PcrelHigh e) role h = absurd (true≢false h)
    given value role h = refl

    at : (op : Op) (os : List Operand) → is_some (pcrel_high_operand op os) ≡ false → false ≡ is_high_among op os
    at Auipc (o ∷ []) h = given o.value o.role h
    at op os h = refl
not_alone b none = refl
