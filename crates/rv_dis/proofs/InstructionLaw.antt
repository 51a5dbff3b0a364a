-- The text of an instruction is a line that is this instruction.
use Rattle.std.proofs.Common.{◌≡◌, ℕ, ℤ, pos, ◌<◌, ◌^◌, ◌≤ℤ◌, true, false, List, [], ◌∷◌, map, take, Option, Some, None, Result, Ok, sym, refl, ap, ◌∙◌, arith}
use Rattle.std.specs.Int.{to_le_bytes, w32}
use Rattle.std.specs.Prelude.{unsigned_abs}
use Rattle.std.specs.List.{list_any}
use Rattle.std.proofs.lemmas.Int.{ints}
use Rattle.rv_text.specs.declared.faults.Fault.{Fault}
use Rattle.rv_text.specs.declared.lexeme.Span.{Span}
use Rattle.rv_ops.specs.Csrs.{csr_name}
use Rattle.rv_ops.specs.LimitLaws.{in_limits}
use Rattle.rv_ops.specs.Limits.{limit_fault, InLimits}
use Rattle.rv_ops.specs.Table.{shape_of, classes_of, limits_of, layout_of, operation_name}
use Rattle.rv_ops.specs.declared.op.Op.{Op}
use Rattle.rv_ops.specs.declared.op.Shape.{Shape}
use Rattle.rv_ops.specs.declared.op.Shape.TheVariants as shape
use Rattle.rv_code.specs.declared.instruction.Fields.{Fields}
use Rattle.rv_code.specs.declared.word.Word.{Word}
use Rattle.rv_code.specs.declared.word.Word.TheVariants.{Half, Full}
use Rattle.rv_code.specs.Encoding.{is_in, Fits, bytes_of_word, word_of}
use Rattle.rv_expr.specs.Tree.{Number}
use Rattle.rv_expr.specs.Value.{Environment}
use Rattle.rv_stmt.specs.declared.draft.Draft.{Draft}
use Rattle.rv_stmt.specs.declared.expansion.Expansion.TheVariants.{Itself}
use Rattle.rv_stmt.specs.declared.operand.Operand.{Operand}
use Rattle.rv_stmt.specs.declared.operand.OperandValue.TheVariants.{Plain}
use Rattle.rv_stmt.specs.declared.operand.Role.TheVariants.{Immediate, SourceImmediate, Target}
use Rattle.rv_stmt.specs.declared.statement.Body.TheVariants.{Instr}
use Rattle.rv_stmt.specs.declared.statement.Instruction.{Instruction}
use Rattle.rv_stmt.specs.declared.statement.Stmt.{Stmt}
use Rattle.rv_stmt.specs.Draft.{fields, with_rd, with_rs1}
use Rattle.rv_stmt.specs.Expansion.{expansion_of, expanded}
use Rattle.rv_stmt.specs.Forms.{slots_of, own_form}
use Rattle.rv_stmt.specs.Readings.{and_then}
use Rattle.rv_stmt.specs.Statement.{statement_of, body_of_expansion}
use Rattle.rv_layout.specs.Shapes as layout
use Rattle.rv_layout.specs.Shapes.{constants, size_operand, shape_of_instructions}
use Rattle.rv_fix.specs.Alone.{uses_names, value_uses_names, code_at, no_constants, nothing_defined}
use Rattle.rv_fix.specs.Code.{code, code_of, code_or_zeros, bytes_of_fields, bytes_of_instructions, faulty_size}
use Rattle.rv_fix.specs.Filling.{filled}
use Rattle.rv_fix.specs.Values.{Entry, counted_from, entry_of, operand_values_of}
use Rattle.rv_dis.specs.Assembling.{IsInstruction, Assembles}
use Rattle.rv_dis.specs.Rows.{instruction_row, word_size, word_value}
use Rattle.rv_dis.specs.Text.{target_of, instruction_text}
use Rattle.rv_dis.proofs.Cutting.{runs_at}
use Rattle.rv_dis.proofs.FieldValues.{IsShort, short_magnitude, value_is, value_nameless, not_negative, no_value, no_register, displaced, fill, immediate_fills, source_fills}
use Rattle.rv_dis.proofs.InstructionLine.{FitSlots, pieces_of, puts, start, draft_of, line_read}
use Rattle.rv_dis.proofs.NamedLine.{end_of_name, name_span}
use Rattle.rv_dis.proofs.OperandReadings.{value_tree, csr_put, waiting}
use Rattle.rv_dis.proofs.Operands.{class_below}

-- the shape takes the fields
record Takes (s : Shape) (f : Fields) : Type 0 where
  rd : is_in (classes_of s).rd f.rd ≡ true
  rs1 : is_in (classes_of s).rs1 f.rs1 ≡ true
  rs2 : is_in (classes_of s).rs2 f.rs2 ≡ true
  value : limit_fault (limits_of s) f.value ≡ None
  limits : InLimits (limits_of s) f.value

takes : (o : Op) (f : Fields) → Fits o f → Takes (shape_of o) f
takes o f h =
    record { rd = h.rd; rs1 = h.rs1; rs2 = h.rs2; value = h.value; limits = in_limits (limits_of (shape_of o)) f.value h.value }

short : (s : Shape) (f : Fields) → Takes s f → IsShort f.value
unfolding layout_of
short shape.Upper f h = record { low = omega (arith, ints, h.limits.low); high = omega (arith, ints, h.limits.high) }
short _ f h = record { low = omega (arith, ints, h.limits.low); high = omega (arith, ints, h.limits.high) }

csr_below : (v : ℤ) → pos 0 ≤ℤ v → v ≤ℤ pos 4095 → unsigned_abs v < 4096
csr_below v low high = omega (arith, ints)

-- so they fit the slots of the shape
fit_slots : (a : ℕ) (s : Shape) (f : Fields) → Takes s f → unsigned_abs f.value < 2 ^ 32 → FitSlots a s f (slots_of s)
unfolding layout_of slots_of
fit_slots a shape.Upper f h m = (h.rd, (m, tt))
fit_slots a shape.Jump f h m = (h.rd, (tt, tt))
fit_slots a shape.JumpRegister f h m = (h.rd, ((h.rs1, m), tt))
fit_slots a shape.Branch f h m = (h.rs1, (h.rs2, (tt, tt)))
fit_slots a shape.Load f h m = (h.rd, ((h.rs1, m), tt))
fit_slots a shape.Store f h m = (h.rs2, ((h.rs1, m), tt))
fit_slots a shape.Immediate f h m = (h.rd, (h.rs1, (m, tt)))
fit_slots a shape.Shift f h m = (h.rd, (h.rs1, (m, tt)))
fit_slots a shape.Register f h m = (h.rd, (h.rs1, (h.rs2, tt)))
fit_slots a shape.Csr f h m = (h.rd, (csr_below f.value h.limits.low h.limits.high, (h.rs1, tt)))
fit_slots a shape.CsrImmediate f h m = (h.rd, (csr_below f.value h.limits.low h.limits.high, (class_below (classes_of shape.CsrImmediate).rs1 f.rs1 h.rs1, tt)))
fit_slots a shape.Fence f h m = (h.rs1, (h.rs2, tt))
fit_slots a shape.Whole f h m = tt
fit_slots a shape.LoadReserved f h m = (h.rd, (h.rs1, tt))
fit_slots a shape.Atomic f h m = (h.rd, (h.rs2, (h.rs1, tt)))
fit_slots a shape.CStackAddress f h m = (h.rd, (tt, (m, tt)))
fit_slots a shape.CLoad f h m = (h.rd, ((h.rs1, m), tt))
fit_slots a shape.CStore f h m = (h.rs2, ((h.rs1, m), tt))
fit_slots a shape.CWhole f h m = tt
fit_slots a shape.CImmediate f h m = (h.rd, (m, tt))
fit_slots a shape.CJump f h m = (tt, tt)
fit_slots a shape.CLoadImmediate f h m = (h.rd, (m, tt))
fit_slots a shape.CStackAdjust f h m = (tt, (m, tt))
fit_slots a shape.CUpper f h m = (h.rd, (m, tt))
fit_slots a shape.CShiftRight f h m = (h.rd, (m, tt))
fit_slots a shape.CAndImmediate f h m = (h.rd, (m, tt))
fit_slots a shape.CRegisters f h m = (h.rd, (h.rs2, tt))
fit_slots a shape.CBranch f h m = (h.rs1, (tt, tt))
fit_slots a shape.CShiftLeft f h m = (h.rd, (m, tt))
fit_slots a shape.CLoadStack f h m = (h.rd, (m, tt))
fit_slots a shape.CJumpRegister f h m = (h.rs1, tt)
fit_slots a shape.CTwoRegisters f h m = (h.rd, (h.rs2, tt))
fit_slots a shape.CStoreStack f h m = (h.rs2, (m, tt))

-- The draft of the text has nothing but the values of the fields, and with them it is filled.
record IsFilled (s : Shape) (a : ℕ) (f : Fields) (d : Draft) : Type 0 where
  itself : expansion_of d.operands ≡ Itself
  sizeless : size_operand d.operands ≡ None
  nameless : list_any (λ o. value_uses_names o.value) d.operands ≡ false
  filled : (given : Environment) → filled (limits_of s) d.operands (map (entry_of given a) d.operands) d.fields ≡ Ok f

abbrev ok : Fields → Result Fields Fault
ok f = Ok f

abbrev entry : ℤ → Entry
entry v = Ok v

same : (f : Fields) (rd rs1 rs2 : ℕ) (v : ℤ) → rd ≡ f.rd → rs1 ≡ f.rs1 → rs2 ≡ f.rs2 → v ≡ f.value → fields rd rs1 rs2 v ≡ f
same f rd rs1 rs2 v p q r e = rw (p, q, r, e) refl

-- no operand has a value
without_value : (s : Shape) (a : ℕ) (f g : Fields) → g ≡ f → IsFilled s a f (record { fields = g; operands = [] })
without_value s a f g e = record { itself = refl; sizeless = refl; nameless = refl; filled = λ given. ap ok e }

-- one operand has the value
module _ (s : Shape) (a : ℕ) (f : Fields) (h : Takes s f) where
  -- an immediate with a sign
  with_signed : (g : Fields) (span : Span) → fields g.rd g.rs1 g.rs2 f.value ≡ f → IsFilled s a f (record { fields = g; operands = record { value = Plain (value_tree f.value); role = Immediate; span = span } ∷ [] })
  with_signed g span e =
      let o : Operand = record { value = Plain (value_tree f.value); role = Immediate; span = span } in
      record {
        itself = refl;
        sizeless = refl;
        nameless = rw (value_nameless f.value) refl;
        filled = λ given.
            fill (limits_of s) o [] (entry_of given a o) [] f.value g (fields g.rd g.rs1 g.rs2 f.value)
            (ap (λ r. and_then r (λ v. entry (counted_from a Immediate v))) (value_is given f.value (short_magnitude f.value (short s f h))))
            (immediate_fills (limits_of s) f.value g h.value (short s f h))
            ∙ ap ok e;
      }

  -- an immediate without a sign
  with_unsigned : (g : Fields) (span : Span) → pos 0 ≤ℤ f.value → fields g.rd g.rs1 g.rs2 f.value ≡ f → IsFilled s a f (record { fields = g; operands = record { value = Plain (Number (pos (unsigned_abs f.value))); role = Immediate; span = span } ∷ [] })
  with_unsigned g span low e =
      let o : Operand = record { value = Plain (Number (pos (unsigned_abs f.value))); role = Immediate; span = span } in
      record {
        itself = refl;
        sizeless = refl;
        nameless = refl;
        filled = λ given.
            fill (limits_of s) o [] (entry_of given a o) [] f.value g (fields g.rd g.rs1 g.rs2 f.value)
            (ap entry (not_negative f.value low))
            (immediate_fills (limits_of s) f.value g h.value (short s f h))
            ∙ ap ok e;
      }

  -- a target
  with_target : (g : Fields) (span : Span) → a < 2 ^ 32 → fields g.rd g.rs1 g.rs2 f.value ≡ f → IsFilled s a f (record { fields = g; operands = record { value = Plain (Number (pos (target_of a f.value))); role = Target; span = span } ∷ [] })
  with_target g span small e =
      let o : Operand = record { value = Plain (Number (pos (target_of a f.value))); role = Target; span = span } in
      record {
        itself = refl;
        sizeless = refl;
        nameless = refl;
        filled = λ given.
            fill (limits_of s) o [] (entry_of given a o) [] f.value g (fields g.rd g.rs1 g.rs2 f.value)
            (ap entry (displaced a f.value small (short s f h)))
            (immediate_fills (limits_of s) f.value g h.value (short s f h))
            ∙ ap ok e;
      }

-- a control and status register, by its name or its number, and a register
csr_filled : (a : ℕ) (f : Fields) (h : Takes shape.Csr f) (name : Option (List ℕ)) (span : Span) → pos 0 ≤ℤ f.value → 0 ≡ f.rs2 → IsFilled shape.Csr a f (with_rs1 (csr_put name (unsigned_abs f.value) span (with_rd start f.rd)) f.rs1)
csr_filled a f h None span low z = with_unsigned shape.Csr a f h _ span low (same f f.rd f.rs1 0 f.value refl refl z refl)
csr_filled a f h (Some name) span low z =
    without_value shape.Csr a f _ (same f f.rd f.rs1 0 (pos (unsigned_abs f.value)) refl refl z (not_negative f.value low))

-- the same, and an immediate in the place of a register
abbrev source_operand : ℕ → Span → Operand
source_operand n span = record { value = Plain (Number (pos n)); role = SourceImmediate; span = span }

csr_immediate_filled : (a : ℕ) (f : Fields) (h : Takes shape.CsrImmediate f) (name : Option (List ℕ)) (span last : Span) → pos 0 ≤ℤ f.value → f.rs1 < 32 → 0 ≡ f.rs2 → IsFilled shape.CsrImmediate a f (waiting (Number (pos f.rs1)) SourceImmediate last (csr_put name (unsigned_abs f.value) span (with_rd start f.rd)))
csr_immediate_filled a f h None span last low small z =
    let l = limits_of shape.CsrImmediate in
    let o : Operand = record { value = Plain (Number (pos (unsigned_abs f.value))); role = Immediate; span = span } in
    let second = source_operand f.rs1 last in
    let g = fields f.rd 0 0 f.value in
    record {
      itself = refl;
      sizeless = refl;
      nameless = refl;
      filled = λ given.
          fill l o (second ∷ []) (entry_of given a o) (entry_of given a second ∷ []) f.value (fields f.rd 0 0 (pos 0)) g
          (ap entry (not_negative f.value low))
          (immediate_fills l f.value (fields f.rd 0 0 (pos 0)) h.value (short shape.CsrImmediate f h))
          ∙ fill l second [] (entry_of given a second) [] (pos f.rs1) g (fields f.rd f.rs1 0 f.value) refl (source_fills l f.rs1 g small)
          ∙ ap ok (same f f.rd f.rs1 0 f.value refl refl z refl);
    }
csr_immediate_filled a f h (Some name) span last low small z =
    let l = limits_of shape.CsrImmediate in
    let second = source_operand f.rs1 last in
    let v = pos (unsigned_abs f.value) in
    let g = fields f.rd 0 0 v in
    record {
      itself = refl;
      sizeless = refl;
      nameless = refl;
      filled = λ given.
          fill l second [] (entry_of given a second) [] (pos f.rs1) g (fields f.rd f.rs1 0 v) refl (source_fills l f.rs1 g small)
          ∙ ap ok (same f f.rd f.rs1 0 v refl refl z (not_negative f.value low));
    }

is_filled : (a : ℕ) (s : Shape) (f : Fields) (at : ℕ) → a < 2 ^ 32 → Takes s f → IsFilled s a f (puts a s f (slots_of s) (runs_at at (pieces_of a s f (slots_of s))) start)
unfolding layout_of slots_of
is_filled a shape.Upper f at small h =
    with_unsigned shape.Upper a f h _ _ (omega (arith, ints, h.limits.low)) (same f f.rd 0 0 f.value refl (no_register f.rs1 h.rs1) (no_register f.rs2 h.rs2) refl)
is_filled a shape.Jump f at small h =
    with_target shape.Jump a f h _ _ small (same f f.rd 0 0 f.value refl (no_register f.rs1 h.rs1) (no_register f.rs2 h.rs2) refl)
is_filled a shape.JumpRegister f at small h =
    with_signed shape.JumpRegister a f h _ _ (same f f.rd f.rs1 0 f.value refl refl (no_register f.rs2 h.rs2) refl)
is_filled a shape.Branch f at small h =
    with_target shape.Branch a f h _ _ small (same f 0 f.rs1 f.rs2 f.value (no_register f.rd h.rd) refl refl refl)
is_filled a shape.Load f at small h =
    with_signed shape.Load a f h _ _ (same f f.rd f.rs1 0 f.value refl refl (no_register f.rs2 h.rs2) refl)
is_filled a shape.Store f at small h =
    with_signed shape.Store a f h _ _ (same f 0 f.rs1 f.rs2 f.value (no_register f.rd h.rd) refl refl refl)
is_filled a shape.Immediate f at small h =
    with_signed shape.Immediate a f h _ _ (same f f.rd f.rs1 0 f.value refl refl (no_register f.rs2 h.rs2) refl)
is_filled a shape.Shift f at small h =
    with_signed shape.Shift a f h _ _ (same f f.rd f.rs1 0 f.value refl refl (no_register f.rs2 h.rs2) refl)
is_filled a shape.Register f at small h =
    without_value shape.Register a f _ (same f f.rd f.rs1 f.rs2 (pos 0) refl refl refl (no_value f.value h.limits.low h.limits.high))
is_filled a shape.Csr f at small h = csr_filled a f h (csr_name (unsigned_abs f.value)) _ h.limits.low (no_register f.rs2 h.rs2)
is_filled a shape.CsrImmediate f at small h =
    csr_immediate_filled a f h (csr_name (unsigned_abs f.value)) _ _ h.limits.low (class_below (classes_of shape.CsrImmediate).rs1 f.rs1 h.rs1) (no_register f.rs2 h.rs2)
is_filled a shape.Fence f at small h =
    without_value shape.Fence a f _ (same f 0 f.rs1 f.rs2 (pos 0) (no_register f.rd h.rd) refl refl (no_value f.value h.limits.low h.limits.high))
is_filled a shape.Whole f at small h =
    without_value shape.Whole a f _ (same f 0 0 0 (pos 0) (no_register f.rd h.rd) (no_register f.rs1 h.rs1) (no_register f.rs2 h.rs2) (no_value f.value h.limits.low h.limits.high))
is_filled a shape.LoadReserved f at small h =
    without_value shape.LoadReserved a f _ (same f f.rd f.rs1 0 (pos 0) refl refl (no_register f.rs2 h.rs2) (no_value f.value h.limits.low h.limits.high))
is_filled a shape.Atomic f at small h =
    without_value shape.Atomic a f _ (same f f.rd f.rs1 f.rs2 (pos 0) refl refl refl (no_value f.value h.limits.low h.limits.high))
is_filled a shape.CStackAddress f at small h =
    with_signed shape.CStackAddress a f h _ _ (same f f.rd 0 0 f.value refl (no_register f.rs1 h.rs1) (no_register f.rs2 h.rs2) refl)
is_filled a shape.CLoad f at small h =
    with_signed shape.CLoad a f h _ _ (same f f.rd f.rs1 0 f.value refl refl (no_register f.rs2 h.rs2) refl)
is_filled a shape.CStore f at small h =
    with_signed shape.CStore a f h _ _ (same f 0 f.rs1 f.rs2 f.value (no_register f.rd h.rd) refl refl refl)
is_filled a shape.CWhole f at small h =
    without_value shape.CWhole a f _ (same f 0 0 0 (pos 0) (no_register f.rd h.rd) (no_register f.rs1 h.rs1) (no_register f.rs2 h.rs2) (no_value f.value h.limits.low h.limits.high))
is_filled a shape.CImmediate f at small h =
    with_signed shape.CImmediate a f h _ _ (same f f.rd 0 0 f.value refl (no_register f.rs1 h.rs1) (no_register f.rs2 h.rs2) refl)
is_filled a shape.CJump f at small h =
    with_target shape.CJump a f h _ _ small (same f 0 0 0 f.value (no_register f.rd h.rd) (no_register f.rs1 h.rs1) (no_register f.rs2 h.rs2) refl)
is_filled a shape.CLoadImmediate f at small h =
    with_signed shape.CLoadImmediate a f h _ _ (same f f.rd 0 0 f.value refl (no_register f.rs1 h.rs1) (no_register f.rs2 h.rs2) refl)
is_filled a shape.CStackAdjust f at small h =
    with_signed shape.CStackAdjust a f h _ _ (same f 0 0 0 f.value (no_register f.rd h.rd) (no_register f.rs1 h.rs1) (no_register f.rs2 h.rs2) refl)
is_filled a shape.CUpper f at small h =
    with_unsigned shape.CUpper a f h _ _ (omega (arith, ints, h.limits.low)) (same f f.rd 0 0 f.value refl (no_register f.rs1 h.rs1) (no_register f.rs2 h.rs2) refl)
is_filled a shape.CShiftRight f at small h =
    with_signed shape.CShiftRight a f h _ _ (same f f.rd 0 0 f.value refl (no_register f.rs1 h.rs1) (no_register f.rs2 h.rs2) refl)
is_filled a shape.CAndImmediate f at small h =
    with_signed shape.CAndImmediate a f h _ _ (same f f.rd 0 0 f.value refl (no_register f.rs1 h.rs1) (no_register f.rs2 h.rs2) refl)
is_filled a shape.CRegisters f at small h =
    without_value shape.CRegisters a f _ (same f f.rd 0 f.rs2 (pos 0) refl (no_register f.rs1 h.rs1) refl (no_value f.value h.limits.low h.limits.high))
is_filled a shape.CBranch f at small h =
    with_target shape.CBranch a f h _ _ small (same f 0 f.rs1 0 f.value (no_register f.rd h.rd) refl (no_register f.rs2 h.rs2) refl)
is_filled a shape.CShiftLeft f at small h =
    with_signed shape.CShiftLeft a f h _ _ (same f f.rd 0 0 f.value refl (no_register f.rs1 h.rs1) (no_register f.rs2 h.rs2) refl)
is_filled a shape.CLoadStack f at small h =
    with_signed shape.CLoadStack a f h _ _ (same f f.rd 0 0 f.value refl (no_register f.rs1 h.rs1) (no_register f.rs2 h.rs2) refl)
is_filled a shape.CJumpRegister f at small h =
    without_value shape.CJumpRegister a f _ (same f 0 f.rs1 0 (pos 0) (no_register f.rd h.rd) refl (no_register f.rs2 h.rs2) (no_value f.value h.limits.low h.limits.high))
is_filled a shape.CTwoRegisters f at small h =
    without_value shape.CTwoRegisters a f _ (same f f.rd 0 f.rs2 (pos 0) refl (no_register f.rs1 h.rs1) refl (no_value f.value h.limits.low h.limits.high))
is_filled a shape.CStoreStack f at small h =
    with_signed shape.CStoreStack a f h _ _ (same f 0 0 f.rs2 f.value (no_register f.rd h.rd) (no_register f.rs1 h.rs1) refl refl)

-- the code of an instruction without a constant load and an address pair
code_is : (constant_of : List ℕ → Option ℤ) (i : Instruction) (f : Fields) (es : List Entry) → expansion_of i.operands ≡ Itself → size_operand i.operands ≡ None → filled (limits_of (shape_of i.op)) i.operands es i.fields ≡ Ok f → code_of (layout.shape_of constant_of (Instr i)) (Instr i) es ≡ code (bytes_of_word (word_of i.op f))
code_is constant_of i f es itself sizeless whole =
    ap (λ operand. code_of (shape_of_instructions (constants constant_of) i operand) (Instr i) es) sizeless
    ∙ ap (λ r. code_or_zeros (faulty_size i) (bytes_of_fields i r)) whole
    ∙ ap (λ expansion. code (bytes_of_instructions (expanded expansion i.op f))) itself

pub is_instruction : (a : ℕ) (o : Op) (f : Fields) → a < 2 ^ 32 → Fits o f → IsInstruction a o f (instruction_text a o f)
is_instruction a o f small fits =
    let h = takes o f fits in
    let d = draft_of a o f in
    let name = name_span (operation_name o) in
    let whole = is_filled a (shape_of o) f (end_of_name (operation_name o)) small h in
    let i : Instruction = record { name = name; op = o; fields = d.fields; operands = d.operands } in
    let read = line_read a o f (fit_slots a (shape_of o) f h (short_magnitude f.value (short (shape_of o) f h))) in
    let body : (statement_of (instruction_text a o f)).body ≡ Instr i =
    ap (λ (s : Stmt). s.body) read ∙ ap (λ expansion. body_of_expansion expansion (own_form o) i) whole.itself in
    record {
      labels = ap (λ (s : Stmt). s.labels) read;
      nameless = ap uses_names body ∙ whole.nameless;
      code = λ constant_of given.
          ap (λ b. code_of (layout.shape_of constant_of b) b (operand_values_of given a b)) body
          ∙ code_is constant_of i f (map (entry_of given a) i.operands) whole.itself whole.sizeless (whole.filled given);
    }

pub text_assembles : (a : ℕ) (o : Op) (f : Fields) → a < 2 ^ 32 → Fits o f → code_at a (instruction_text a o f) ≡ code (bytes_of_word (word_of o f))
text_assembles a o f small fits = (is_instruction a o f small fits).code no_constants (nothing_defined a)

-- a word's bytes are the lowest ones of its number
word_bytes : (w : Word) → take (word_size w) (to_le_bytes w32 (word_value w)) ≡ bytes_of_word w
word_bytes (Half n) = refl
word_bytes (Full n) = refl

-- the row of an instruction assembles to its bytes
pub instruction_assembles : (a : ℕ) (o : Op) (f : Fields) → a < 2 ^ 32 → Fits o f → Assembles (instruction_row a o f)
instruction_assembles a o f small fits =
    record {
      nameless = (is_instruction a o f small fits).nameless;
      code = text_assembles a o f small fits ∙ ap code (sym (word_bytes (word_of o f)));
    }
