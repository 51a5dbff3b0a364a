-- The high halves on the lines of a text, and on the lines that an edit does not invalidate.
use Rattle.std.proofs.Common.{◌≡◌, ℕ, ℤ, suc, ◌+◌, ◌-◌, ◌<◌, ◌≤◌, ◌==◌, pos, Bool, true, false, not, ◌&&◌, ◌||◌, if◌then◌else◌, List, ◌∷◌, length, get_or, is_some, Option, Some, None, Ok, Err, true≢false, arith, ap, sym, ◌∙◌, refl}
use Rattle.std.specs.List.{list_any, flat_map}
use Rattle.std.proofs.lemmas.Bool.{both_ways, or_parts, or_left, or_right, eq-eqb}
use Rattle.std.proofs.lemmas.List.Folds.{list_any-append}
use Rattle.rv_expr.specs.declared.faults.ValueFault.TheVariants.{NoPartner}
use Rattle.rv_expr.specs.Tree.{Tree}
use Rattle.rv_expr.specs.Value.{Environment}
use Rattle.rv_ops.specs.declared.op.Op.{Op}
use Rattle.rv_ops.specs.declared.op.Op.TheVariants.{Auipc}
use Rattle.rv_stmt.specs.declared.operand.Operand.{Operand}
use Rattle.rv_stmt.specs.declared.operand.OperandValue.{OperandValue}
use Rattle.rv_stmt.specs.declared.operand.OperandValue.TheVariants.{PcrelHigh}
use Rattle.rv_stmt.specs.declared.statement.Body.{Body}
use Rattle.rv_stmt.specs.declared.statement.Body.TheVariants as body
use Rattle.rv_stmt.specs.Readings.{and_then}
use Rattle.rv_layout.specs.Places.{IsLimited}
use Rattle.rv_layout.specs.Sections.{section_number}
use Rattle.rv_layout.specs.ShapeLaws.{limited}
use Rattle.rv_layout.specs.Shapes.{shape_of}
use Rattle.rv_fix.specs.Displacements.{displacement}
use Rattle.rv_fix.specs.Values.{Entry}
use Rattle.rv_program.specs.declared.before.Before.{Before}
use Rattle.rv_program.specs.declared.text_rows.TextRows.{TextRows}
use Rattle.rv_program.specs.internal.Before.{IsAfter, base_before, lines_before, edit_on}
use Rattle.rv_program.specs.Changes.{program_after, differs_in_name, differs_in_uses, is_invalidated}
use Rattle.rv_program.specs.Constants.{constant_of}
use Rattle.rv_program.specs.Layout.{shape_at, section_at, address_at, size_at}
use Rattle.rv_program.specs.Pairs.{pcrel_high_value, pcrel_high_operand, pcrel_high_of, high_by, high_at, has_bytes_in, high_at_line, paired_high_of}
use Rattle.rv_program.specs.Program.{Program, program_of, body_at, first_line}
use Rattle.rv_program.specs.References.{references_at}
use Rattle.rv_program.specs.internal.Rows.{own_high_of, AreHighs}
use Rattle.rv_program.specs.internal.TextRows.{program_in}
use Rattle.rv_program.specs.Uses.{names_in, has_local_label, expression_of, is_pcrel_high, is_relative, has_here, operand_uses_address, uses_address}
use Rattle.rv_program.specs.internal.Work.{one_if_some, high_operands, work}
use Rattle.rv_program.specs.lemmas.Alignments.{size_at-follows}
use Rattle.rv_program.specs.lemmas.KeptLines.{UsesSame, same_name, uses-same}
use Rattle.rv_program.specs.lemmas.Programs.{length-program}
use Rattle.rv_program.specs.lemmas.UsedConstants.{shape-follows}
use Rattle.rv_program.specs.lemmas.UsedValues.{value-follows}
use Rattle.rv_program.specs.lemmas.WorkLaws.{work-invalidated}

-- where two environments give the same for each name that does not differ, and for `.` where two addresses are the same
module _ (differs : List ℕ → Bool) (given other : Environment) (here there : ℕ) (symbols : (name : List ℕ) → differs name ≡ false → given.symbol name ≡ other.symbol name) (address : here ≡ there → given.here ≡ other.here) where
  high-of_value : (v : OperandValue) → list_any differs (names_in (expression_of v)) ≡ false → (is_pcrel_high v ≡ true → here ≡ there) → has_local_label (expression_of v) ≡ false → high_by given here (pcrel_high_value v) ≡ high_by other there (pcrel_high_value v)
  high-of_value (PcrelHigh e) names place local =
      let value = value-follows differs given other symbols e names (λ h. address (place refl)) (λ h. absurd (both_ways (has_local_label e) local h)) in
      λ i. and_then (value i) (λ v. Ok (displacement (place refl i) v))
  high-of_value v names place local = refl

  high-of_operands : (op : Op) (os : List Operand) → list_any differs (flat_map (λ o. names_in (expression_of o.value)) os) ≡ false → (list_any operand_uses_address os ≡ true → here ≡ there) → list_any (λ o. has_local_label (expression_of o.value)) os ≡ false → high_by given here (pcrel_high_operand op os) ≡ high_by other there (pcrel_high_operand op os)
  high-of_operands Auipc (o ∷ os) names place local =
      let first = names_in (expression_of o.value) in
      let more = flat_map (λ o. names_in (expression_of o.value)) os in
      let names' = or_parts (list_any differs first) (list_any differs more) (sym (list_any-append differs first more) ∙ names) in
      let local' = or_parts (has_local_label (expression_of o.value)) (list_any (λ o. has_local_label (expression_of o.value)) os) local in
      high-of_value o.value names'.0
      (λ h. place (or_left (operand_uses_address o) (list_any operand_uses_address os) (or_left (has_here (expression_of o.value) || is_pcrel_high o.value) (is_relative o.role) (or_right (has_here (expression_of o.value)) (is_pcrel_high o.value) h))))
      local'.0
  high-of_operands op os names place local = refl

-- a line with the body that it had, which uses nothing that differs, has the high half that it had
pub high-kept : (base : ℕ) (before after : Program) (k j : ℕ) → body_at after k ≡ body_at before j → differs_in_uses base before after k j (body_at after k) ≡ false → high_at base after k ≡ high_at base before j
high-kept base before after k j same h =
    at (body_at after k) (uses-same base before after k j (body_at after k) h)
    ∙ ap (λ b. high_by (references_at base before j) (address_at base before j) (pcrel_high_of b)) same
  where
    at : (b : Body) → UsesSame base before after k j b → high_by (references_at base after k) (address_at base after k) (pcrel_high_of b) ≡ high_by (references_at base before j) (address_at base before j) (pcrel_high_of b)
    at (body.Instr i) uses =
        high-of_operands (differs_in_name base before after k j) (references_at base after k) (references_at base before j) (address_at base after k) (address_at base before j)
        (λ name h. (same_name base before after k j name h).0) (ap (λ a. Ok (pos a))) i.op i.operands uses.names (λ h. (uses.place h).0) uses.local
    at b uses = refl

-- What is counted for a high half

pub no-high : (given : Environment) (here : ℕ) (t : Option Tree) → is_some t ≡ false → high_by given here t ≡ Err NoPartner
no-high given here None none = refl
no-high given here (Some e) none = absurd (true≢false none)

pub some-high : (t : Option Tree) → is_some t ≡ true → one_if_some t ≡ 1
some-high None some = absurd (true≢false (sym some))
some-high (Some e) some = refl

pub high-counted : (before : Before) (after : TextRows) (line : ℕ) → IsAfter before after → 1 ≤ line → is_some (pcrel_high_of (body_at (program_in after) line)) ≡ true → is_invalidated (base_before before) (lines_before before) (edit_on before) line ≡ true → work high_operands (base_before before) (lines_before before) (edit_on before) (line - 1) + 1 ≡ work high_operands (base_before before) (lines_before before) (edit_on before) line
high-counted before after line is_after first some invalidated =
    let one : high_operands (body_at (program_in after) line) ≡ 1 = some-high (pcrel_high_of (body_at (program_in after) line)) some in
    let here : high_operands (body_at (program_after (lines_before before) (edit_on before)) line) ≡ 1 = ap (λ lines. high_operands (body_at (program_of lines) line)) (sym is_after.lines) ∙ one in
    let more = work-invalidated high_operands (base_before before) (lines_before before) (edit_on before) line first invalidated in
    omega (arith, here, more)

-- High halves on lines with bytes

pub no-own : (base : ℕ) (program : Program) (i : ℕ) → is_some (pcrel_high_of (body_at program i)) ≡ false → own_high_of base program i ≡ Err NoPartner
no-own base program i none = at (size_at program i == 0)
  where
    at : (b : Bool) → (if b then Err NoPartner else high_at base program i) ≡ Err NoPartner
    at true = refl
    at false = no-high (references_at base program i) (address_at base program i) (pcrel_high_of (body_at program i)) none

pub own-none : (base : ℕ) (program : Program) (i : ℕ) → (size_at program i == 0) ≡ true → own_high_of base program i ≡ Err NoPartner
own-none base program i none = ap (λ b. if b then Err NoPartner else high_at base program i) none

pub own-is : (base : ℕ) (program : Program) (i : ℕ) → (size_at program i == 0) ≡ false → own_high_of base program i ≡ high_at base program i
own-is base program i bytes = ap (λ b. if b then Err NoPartner else high_at base program i) bytes

-- a line with bytes is the first with bytes from there on
own-first : (base : ℕ) (program : Program) (i : ℕ) → 1 ≤ i → i ≤ length program → (size_at program i == 0) ≡ false → paired_high_of base program i ≡ high_at base program i
own-first base program i first last bytes =
    let section = section_number (section_at program i) in
    let test = has_bytes_in program section in
    let next : suc (i - 1) ≡ i = omega (arith, first) in
    let count : length program - (i - 1) ≡ suc (length program - i) = omega (arith, first, last) in
    let passes : test (suc (i - 1)) ≡ true = ap test next ∙ (λ j. eq-eqb section section refl j && not (bytes j)) in
    ap (λ n. high_at_line base program (first_line test (i - 1) n)) count
    ∙ ap (λ b. high_at_line base program (if b then Some (suc (i - 1)) else first_line test (suc (i - 1)) (length program - i))) passes
    ∙ ap (high_at base program) next

-- Lines that are not invalidated

uses-address : (b : Body) → is_some (pcrel_high_of b) ≡ true → uses_address b ≡ true
uses-address (body.Instr i) some = at i.op i.operands some
  where
    value : (o : Operand) → is_some (pcrel_high_value o.value) ≡ true → operand_uses_address o ≡ true
    value o some = or_left (has_here (expression_of o.value) || is_pcrel_high o.value) (is_relative o.role) (or_right (has_here (expression_of o.value)) (is_pcrel_high o.value) (is-high o.value some))
      where
        is-high : (v : OperandValue) → is_some (pcrel_high_value v) ≡ true → is_pcrel_high v ≡ true
        is-high (PcrelHigh e) some = refl
        is-high v some = absurd (true≢false (sym some))

    at : (op : Op) (os : List Operand) → is_some (pcrel_high_operand op os) ≡ true → list_any operand_uses_address os ≡ true
    at Auipc (o ∷ os) some = or_left (operand_uses_address o) (list_any operand_uses_address os) (value o some)
    at op os some = absurd (true≢false (sym some))
uses-address b some = absurd (true≢false (sym some))

-- it has as many bytes as it had
pub high-size : (base : ℕ) (before after : Program) (k j : ℕ) → 1 ≤ k → k ≤ length after → 1 ≤ j → j ≤ length before → body_at after k ≡ body_at before j → is_some (pcrel_high_of (body_at after k)) ≡ true → differs_in_uses base before after k j (body_at after k) ≡ false → size_at after k ≡ size_at before j
high-size base before after k j first last first' last' same some h =
    let b = body_at after k in
    let uses = uses-same base before after k j b h in
    let place = uses.place (uses-address b some) in
    let shape : shape_at after k ≡ shape_at before j =
    shape-follows (differs_in_name base before after k j) (constant_of after k) (constant_of before j) (λ name g. (same_name base before after k j name g).1) b uses.names
    ∙ ap (shape_of (constant_of before j)) same in
    size_at-follows base after before k j first last first' last' (limited-high (constant_of before j) (body_at before j) (ap (λ b. is_some (pcrel_high_of b)) (sym same) ∙ some)) shape place.1 place.0
  where
    limited-high : (f : List ℕ → Option ℤ) (b : Body) → is_some (pcrel_high_of b) ≡ true → IsLimited (shape_of f b)
    limited-high f (body.Instr i) some = limited f (body.Instr i) (omega arith)
    limited-high f b some = absurd (true≢false (sym some))

-- The row of high halves

pub high_of_line : (base : ℕ) (lines : List (List ℕ)) (row : List Entry) (i : ℕ) → AreHighs base (program_of lines) row → 1 ≤ i → i ≤ length lines → (size_at (program_of lines) i == 0) ≡ false → get_or row (i - 1) (Err NoPartner) ≡ high_at base (program_of lines) i
high_of_line base lines row i are first last bytes =
    let within : i - 1 < length (program_of lines) = omega (arith, first, last, length-program lines) in
    let next : suc (i - 1) ≡ i = omega (arith, first) in
    are.each (i - 1) within ∙ ap (paired_high_of base (program_of lines)) next
    ∙ own-first base (program_of lines) i first (omega (arith, last, length-program lines)) bytes
