-- What is counted where jumps to local labels are compared.
use Rattle.std.proofs.Common.{◌≡◌, ℕ, ◌+◌, ◌-◌, ◌≤◌, true, false, ◌&&◌, ◌||◌, List, [], ◌∷◌, Some, arith, ap, sym, ◌∙◌, refl}
use Rattle.std.specs.List.{list_any}
use Rattle.std.proofs.lemmas.Bool.{or_left, or_right}
use Rattle.rv_text.specs.Counting.{Counts}
use Rattle.rv_expr.specs.declared.tree.Direction.{Direction}
use Rattle.rv_expr.specs.Tree.{Local}
use Rattle.rv_stmt.specs.declared.operand.Operand.{Operand}
use Rattle.rv_stmt.specs.declared.operand.OperandValue.{OperandValue}
use Rattle.rv_stmt.specs.declared.operand.OperandValue.TheVariants.{Plain}
use Rattle.rv_stmt.specs.declared.operand.Role.{Role}
use Rattle.rv_stmt.specs.declared.operand.Role.TheVariants.{Target, PairTarget}
use Rattle.rv_stmt.specs.declared.statement.Body.{Body}
use Rattle.rv_stmt.specs.declared.statement.Body.TheVariants.{Instr, Pseudo}
use Rattle.rv_program.specs.declared.before.Before.{Before}
use Rattle.rv_program.specs.declared.text_rows.TextRows.{TextRows}
use Rattle.rv_program.specs.internal.Before.{IsAfter, base_before, lines_before, edit_on}
use Rattle.rv_program.specs.Changes.{program_after, is_new_or, differs_in_name, differs_in_place, differs_in_uses, is_invalidated}
use Rattle.rv_program.specs.internal.Compared.{compared_through, IsCompared, AreCompared}
use Rattle.rv_program.specs.Edits.{line_before_edit}
use Rattle.rv_program.specs.Jumps.{target_in, target_among, target_of}
use Rattle.rv_program.specs.Program.{program_of, body_at}
use Rattle.rv_program.specs.internal.Revisions.{edited_before}
use Rattle.rv_program.specs.internal.TextRows.{program_in}
use Rattle.rv_program.specs.Uses.{has_local_label, expression_of, names_used, uses_address, uses_local_label, uses_paired_high, is_equ}
use Rattle.rv_program.specs.internal.Work.{one_if_local, compared_operands}
use Rattle.rv_program.proofs.DueLines.{label-is, none≢some}
use Rattle.rv_program.specs.lemmas.WorkLaws.{work-invalidated, work-more, work-up}

-- A jump to a local label uses it

local-in : (value : OperandValue) (role : Role) (number : ℕ) (direction : Direction) → target_in value role ≡ Some (Local number direction) → has_local_label (expression_of value) ≡ true
local-in (Plain e) Target number direction goes = ap has_local_label (label-is e (Local number direction) goes)
local-in (Plain e) PairTarget number direction goes = ap has_local_label (label-is e (Local number direction) goes)
local-in value role number direction goes = none≢some goes

local-among : (os : List Operand) (number : ℕ) (direction : Direction) → target_among os ≡ Some (Local number direction) → list_any (λ o. has_local_label (expression_of o.value)) os ≡ true
local-among [] number direction goes = none≢some goes
local-among (o ∷ []) number direction goes = or_left (has_local_label (expression_of o.value)) false (local-in o.value o.role number direction goes)
local-among (o ∷ p ∷ os) number direction goes = none≢some goes

local-of : (b : Body) (number : ℕ) (direction : Direction) → target_of b ≡ Some (Local number direction) → uses_local_label b ≡ true
local-of (Instr i) number direction goes = local-among i.operands number direction goes
local-of (Pseudo i) number direction goes = local-among i.operands number direction goes
local-of b number direction goes = none≢some goes

module _ (before : Before) (after : TextRows) (line : ℕ) (is_after : IsAfter before after) (first : 1 ≤ line) where
  abbrev base : ℕ
  base = base_before before

  abbrev lines : List (List ℕ)
  lines = lines_before before

  abbrev body : Body
  body = body_at (program_after lines (edit_on before)) line

  -- so each edit invalidates it
  invalidated : (stood : ℕ) → line_before_edit (edit_on before) line ≡ Some stood → uses_local_label body ≡ true → is_invalidated base lines (edit_on before) line ≡ true
  invalidated stood stands uses =
      let names = list_any (differs_in_name base (program_of lines) (program_after lines (edit_on before)) line stood) (names_used body) in
      let place = uses_address body && differs_in_place base (program_of lines) (program_after lines (edit_on before)) line stood in
      ap (is_new_or (λ j. differs_in_uses base (program_of lines) (program_after lines (edit_on before)) line j body)) stands
      ∙ or_left (names || place || uses_local_label body || uses_paired_high body) (is_equ body)
      (or_left (names || place || uses_local_label body) (uses_paired_high body)
      (or_right (names || place) (uses_local_label body) uses))

  -- its comparison is counted
  pub local-compared : (stood number : ℕ) (direction : Direction) → line_before_edit (edit_on before) line ≡ Some stood → target_of (body_at (program_in after) line) ≡ Some (Local number direction) → compared_through (edited_before before) line ≡ compared_through (edited_before before) (line - 1) + 1
  local-compared stood number direction stands goes =
      let goes' : target_of body ≡ Some (Local number direction) = ap (λ ls. target_of (body_at (program_of ls) line)) (sym is_after.lines) ∙ goes in
      let one : compared_operands body ≡ 1 = ap one_if_local goes' in
      let here = work-invalidated compared_operands base lines (edit_on before) line first (invalidated stood stands (local-of body number direction goes')) in
      omega (arith, here, one)

  -- where nothing is compared
  pub not-compared : (counts : Counts) → IsCompared (edited_before before) line counts counts
  not-compared counts =
      let more = work-more compared_operands base lines (edit_on before) line first in
      record {
        parsed = refl;
        least = omega arith;
        one = omega arith;
        most = omega (arith, more);
        encoded = refl;
      }

-- Line by line

pub none-compared : (before : Before) (counts : Counts) → AreCompared (edited_before before) 0 counts counts
none-compared before counts = record { parsed = refl; least = omega arith; few = omega arith; most = omega arith; encoded = refl }

pub next-compared : (before : Before) (n : ℕ) (old counts new : Counts) → AreCompared (edited_before before) n old counts → IsCompared (edited_before before) (n + 1) counts new → AreCompared (edited_before before) (n + 1) old new
next-compared before n old counts new are is =
    let back = ap (compared_through (edited_before before)) (let e : n + 1 - 1 ≡ n = omega arith in e) in
    record {
      parsed = is.parsed ∙ are.parsed;
      least = omega (arith, are.least, is.least);
      few = omega (arith, are.few, is.one);
      most = omega (arith, are.most, is.most, back);
      encoded = is.encoded ∙ are.encoded;
    }

-- of more lines
pub more-compared : (before : Before) (m n : ℕ) (old new : Counts) → m ≤ n → AreCompared (edited_before before) m old new → AreCompared (edited_before before) n old new
more-compared before m n old new up are =
    let more = work-up compared_operands (base_before before) (lines_before before) (edit_on before) m n up in
    record {
      parsed = are.parsed;
      least = are.least;
      few = omega (arith, are.few, up);
      most = omega (arith, are.most, more);
      encoded = are.encoded;
    }
