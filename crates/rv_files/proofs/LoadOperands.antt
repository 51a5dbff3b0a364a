-- A line that loads a constant, after its register, has that operand alone; other lines load none.
use Rattle.std.proofs.Common.{◌≡◌, ℕ, Bool, true, false, ◌||◌, List, [], ◌∷◌, ◌++◌, Option, Some, None, is_some, Ok, codes, refl, ap, sym, ◌∙◌}
use Rattle.std.specs.List.{list_any}
use Rattle.std.proofs.lemmas.Bool.{or_parts, or_from}
use Rattle.std.proofs.lemmas.List.Folds.{list_any-append}
use Rattle.rv_text.specs.declared.lexeme.Span.{Span}
use Rattle.rv_ops.specs.Table.{shape_of, classes_of}
use Rattle.rv_ops.specs.declared.op.Op.{Op}
use Rattle.rv_stmt.specs.declared.draft.Draft.{Draft}
use Rattle.rv_stmt.specs.declared.expansion.Expansion.{Expansion}
use Rattle.rv_stmt.specs.declared.operand.Operand.{Operand}
use Rattle.rv_stmt.specs.declared.operand.OperandValue.{OperandValue}
use Rattle.rv_stmt.specs.declared.operand.Role.{Role}
use Rattle.rv_stmt.specs.declared.operand.Role.TheVariants as role
use Rattle.rv_stmt.specs.declared.registers.Accepted.TheVariants.{Class, StackPointer}
use Rattle.rv_stmt.specs.declared.runs.Run.{Run}
use Rattle.rv_stmt.specs.declared.slots.Slot.{Slot}
use Rattle.rv_stmt.specs.declared.slots.Slot.TheVariants as slot
use Rattle.rv_stmt.specs.Draft.{with_rs1}
use Rattle.rv_stmt.specs.Expansion.{expansion_by_role, expansion_of, is_constant_load}
use Rattle.rv_stmt.specs.Memory.{base_of, bare_base, memory}
use Rattle.rv_stmt.specs.Readings.{Reading}
use Rattle.rv_stmt.specs.Registers.{register, register_in, csr_in, set}
use Rattle.rv_stmt.specs.Slots.{with_waiting, with_offset, memory_slot, register_or_memory, address_through_rd_slot, csr_or_expression, slot_of, operand_of_slot, slots_read}
use Rattle.rv_stmt.specs.Tokens.{punctuation_at}
use Rattle.rv_stmt.specs.Values.{plain, immediate}
use Rattle.rv_files.proofs.Outcomes.{Holds, then_holds, next_holds, either_holds, run_holds}

-- Operands

abbrev is_loaded : Role → Bool
is_loaded role.Constant = true
is_loaded role = false

abbrev has_loaded : List Operand → Bool
has_loaded os = list_any (λ o. is_loaded o.role) os

-- a constant that is loaded
abbrev pub constant_operand : OperandValue → Span → Operand
constant_operand v span = record { value = v; role = role.Constant; span = span }

-- it alone
pub record IsOneConstant (os : List Operand) : Type 0 where
  pub value : OperandValue
  pub span : Span
  pub only : os ≡ constant_operand value span ∷ []

abbrev pub LoadsAlone : List Operand → Type 0
LoadsAlone os = is_constant_load (expansion_of os) ≡ true → IsOneConstant os

by_role : (r : Role) (rest : Expansion) (later : Bool) → (later ≡ false → is_constant_load rest ≡ false) → (is_loaded r || later) ≡ false → is_constant_load (expansion_by_role r rest) ≡ false
by_role role.Constant rest later h none = absurd (let no : true ≡ false = none in cc)
by_role role.PairTarget rest later h none = refl
by_role r rest later h none = h none

-- what has no constant to load loads none
not_load : (os : List Operand) → has_loaded os ≡ false → is_constant_load (expansion_of os) ≡ false
not_load [] none = refl
not_load (o ∷ os) none = by_role o.role (expansion_of os) (has_loaded os) (not_load os) none

pub loads_none : (os : List Operand) → has_loaded os ≡ false → LoadsAlone os
loads_none os none e = absurd (let no : true ≡ false = sym e ∙ not_load os none in cc)

-- Slots

abbrev pub IsPlain : Draft → Type 0
IsPlain d = has_loaded d.operands ≡ false

waiting_plain : (r : Role) (span : Span) (d : Draft) (v : Reading OperandValue) → is_loaded r ≡ false → IsPlain d → Holds IsPlain (with_waiting r span d v)
waiting_plain r span d v other h =
    then_holds IsPlain v _
    (λ x.
    let o : Operand = record { value = x; role = r; span = span } in
    list_any-append (λ (p : Operand). is_loaded p.role) d.operands (o ∷ []) ∙ or_from (has_loaded d.operands) (is_loaded r || false) h (or_from (is_loaded r) false other refl))

offset_plain : (span : Span) (d : Draft) (v : Option OperandValue) → IsPlain d → Holds IsPlain (with_offset span d v)
offset_plain span d None h = h
offset_plain span d (Some v) h = waiting_plain role.Immediate span d (Ok v) refl h

memory_plain : (op : Op) (r : Run) (d : Draft) → IsPlain d → Holds IsPlain (memory_slot op r d)
memory_plain op r d h =
    then_holds IsPlain (memory (shape_of op) (Class (classes_of (shape_of op)).rs1) r.tokens) _ (λ l. offset_plain r.span (with_rs1 d l.base) l.offset h)

memory_or_register_plain : (op : Op) (r : Run) (d : Draft) (n : Option ℕ) → IsPlain d → Holds IsPlain (register_or_memory op r d n)
memory_or_register_plain op r d (Some n) h = h
memory_or_register_plain op r d None h = memory_plain op r d h

through_rd_plain : (r : Run) (d : Draft) → IsPlain d → Holds IsPlain (address_through_rd_slot r d)
through_rd_plain r d h = waiting_plain role.PairTarget r.span (with_rs1 d d.fields.rd) (plain r.tokens) refl h

csr_plain : (r : Run) (d : Draft) (n : Option ℕ) → IsPlain d → Holds IsPlain (csr_or_expression r d n)
csr_plain r d (Some n) h = h
csr_plain r d None h = waiting_plain role.Immediate r.span d (plain r.tokens) refl h

abbrev pub takes_constant : Slot → Bool
takes_constant slot.Constant = true
takes_constant s = false

slot_plain : (op : Op) (s : Slot) (r : Run) (d : Draft) → takes_constant s ≡ false → IsPlain d → Holds IsPlain (slot_of op s r d)
slot_plain op slot.Rd r d other h = then_holds IsPlain (register (Class (classes_of (shape_of op)).rd) r.tokens) _ (λ n. h)
slot_plain op slot.Rs1 r d other h = then_holds IsPlain (register (Class (classes_of (shape_of op)).rs1) r.tokens) _ (λ n. h)
slot_plain op slot.Rs2 r d other h = then_holds IsPlain (register (Class (classes_of (shape_of op)).rs2) r.tokens) _ (λ n. h)
slot_plain op slot.StackPointer r d other h = then_holds IsPlain (register StackPointer r.tokens) _ (λ n. h)
slot_plain op slot.Immediate r d other h = waiting_plain role.Immediate r.span d (immediate (shape_of op) r.tokens) refl h
slot_plain op slot.SourceImmediate r d other h = waiting_plain role.SourceImmediate r.span d (plain r.tokens) refl h
slot_plain op slot.Target r d other h = waiting_plain role.Target r.span d (plain r.tokens) refl h
slot_plain op slot.Memory r d other h = memory_plain op r d h
slot_plain op slot.StackMemory r d other h =
    then_holds IsPlain (memory (shape_of op) StackPointer r.tokens) _ (λ l. offset_plain r.span d l.offset h)
slot_plain op slot.Base r d other h = then_holds IsPlain (bare_base (Class (classes_of (shape_of op)).rs1) r.tokens) _ (λ n. h)
slot_plain op slot.MemoryOrRegister r d other h = memory_or_register_plain op r d (register_in r.tokens) h
slot_plain op slot.MemoryOrAddress r d other h =
    either_holds IsPlain (punctuation_at (codes "%") r.tokens 0 || is_some (base_of r.tokens)) (memory_slot op r d) (address_through_rd_slot r d) (memory_plain op r d h) (through_rd_plain r d h)
slot_plain op slot.Address r d other h = waiting_plain role.PairTarget r.span d (plain r.tokens) refl h
slot_plain op slot.AddressThroughRd r d other h = through_rd_plain r d h
slot_plain op slot.Csr r d other h = csr_plain r d (csr_in r.tokens) h
slot_plain op slot.Predecessors r d other h = then_holds IsPlain (set r.tokens) _ (λ n. h)
slot_plain op slot.Successors r d other h = then_holds IsPlain (set r.tokens) _ (λ n. h)
slot_plain op slot.Constant r d other h = absurd (let e : true ≡ false = other in cc)

pub slots_plain : (op : Op) (ss : List Slot) (rs : List Run) (d : Draft) → list_any takes_constant ss ≡ false → IsPlain d → Holds IsPlain (slots_read op ss rs d)
slots_plain op [] rs d none h = h
slots_plain op (s ∷ ss) [] d none h = h
slots_plain op (s ∷ ss) (r ∷ rs) d none h =
    let both = or_parts (takes_constant s) (list_any takes_constant ss) none in
    next_holds IsPlain IsPlain (operand_of_slot op s r d) _
    (run_holds IsPlain r (slot_of op s r d) (slot_plain op s r d both.0 h))
    (λ e k. slots_plain op ss rs e both.1 k)

-- a register, and then the constant

abbrev pub IsAlone : Draft → Type 0
IsAlone d = LoadsAlone d.operands

abbrev IsBare : Draft → Type 0
IsBare d = d.operands ≡ []

one_constant : (os : List Operand) (v : OperandValue) (span : Span) → os ≡ [] → LoadsAlone (os ++ constant_operand v span ∷ [])
one_constant os v span none e = record { value = v; span = span; only = ap (λ l. l ++ constant_operand v span ∷ []) none }

constant_alone : (op : Op) (rs : List Run) (d : Draft) → IsBare d → Holds IsAlone (slots_read op (slot.Constant ∷ []) rs d)
constant_alone op [] d none = loads_none d.operands (ap has_loaded none)
constant_alone op (r ∷ rs) d none =
    next_holds IsAlone IsAlone (operand_of_slot op slot.Constant r d) _
    (run_holds IsAlone r (slot_of op slot.Constant r d) (then_holds IsAlone (plain r.tokens) _ (λ v. one_constant d.operands v r.span none)))
    (λ e k. k)

pub load_alone : (op : Op) (rs : List Run) (d : Draft) → IsBare d → Holds IsAlone (slots_read op (slot.Rd ∷ slot.Constant ∷ []) rs d)
load_alone op [] d none = loads_none d.operands (ap has_loaded none)
load_alone op (r ∷ rs) d none =
    next_holds IsBare IsAlone (operand_of_slot op slot.Rd r d) _
    (run_holds IsBare r (slot_of op slot.Rd r d) (then_holds IsBare (register (Class (classes_of (shape_of op)).rd) r.tokens) _ (λ n. none)))
    (λ e k. constant_alone op rs e k)
