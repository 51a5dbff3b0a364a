-- How the operands of an instruction are read. (docs/LANGUAGE.md, Instructions)
use Rattle.std.specs.Prelude.{ℕ, pos, ◌||◌, List, [], ◌∷◌, Option, Some, None, is_some, Result, Ok, codes, if◌then◌else◌}
use Rattle.rv_text.specs.declared.faults.Fault.{Fault}
use Rattle.rv_text.specs.declared.lexeme.Span.{Span}
use Rattle.rv_text.specs.Lexing.{SpelledToken}
use Rattle.rv_ops.specs.Table.{shape_of, classes_of}
use Rattle.rv_ops.specs.declared.op.Op.{Op}
use Rattle.rv_stmt.specs.declared.draft.Draft.{Draft}
use Rattle.rv_stmt.specs.declared.operand.OperandValue.{OperandValue}
use Rattle.rv_stmt.specs.declared.operand.Role.{Role}
use Rattle.rv_stmt.specs.declared.operand.Role.TheVariants.{Immediate, SourceImmediate, Target, PairTarget, Constant}
use Rattle.rv_stmt.specs.declared.registers.Accepted.{Accepted}
use Rattle.rv_stmt.specs.declared.registers.Accepted.TheVariants.{Class, StackPointer}
use Rattle.rv_stmt.specs.declared.runs.Run.{Run}
use Rattle.rv_stmt.specs.declared.slots.Slot.{Slot}
use Rattle.rv_stmt.specs.declared.slots.Slot.TheVariants as slot
use Rattle.rv_stmt.specs.Draft.{with_rd, with_rs1, with_rs2, with_value, with_operand}
use Rattle.rv_stmt.specs.Memory.{base_of, bare_base, memory}
use Rattle.rv_stmt.specs.Readings.{Reading, and_then}
use Rattle.rv_stmt.specs.Operands.{operand_of_run}
use Rattle.rv_stmt.specs.Registers.{register_in, register, csr_in, set}
use Rattle.rv_stmt.specs.Tokens.{punctuation_at}
use Rattle.rv_stmt.specs.Values.{plain, immediate}

-- an operand that waits for its value
abbrev pub with_waiting : Role → Span → Draft → Reading OperandValue → Reading Draft
with_waiting role span d v =
    and_then v (λ v. Ok (with_operand d (record { value = v; role = role; span = span })))

-- an offset, which is 0 where it is absent
abbrev pub with_offset : Span → Draft → Option OperandValue → Reading Draft
with_offset span d None = Ok (with_value d (pos 0))
with_offset span d (Some v) = with_waiting Immediate span d (Ok v)

-- the register of a run, which `put` puts into its field
abbrev pub register_slot : Accepted → List SpelledToken → (ℕ → Draft) → Reading Draft
register_slot a run put = and_then (register a run) (λ n. Ok (put n))

-- an address without an offset, in `rs1`
abbrev pub base_slot : Accepted → List SpelledToken → Draft → Reading Draft
base_slot a run d = and_then (bare_base a run) (λ n. Ok (with_rs1 d n))

-- `offset(register)`, with the register in `rs1`
abbrev pub memory_slot : Op → Run → Draft → Reading Draft
memory_slot op r d =
    and_then
    (memory (shape_of op) (Class (classes_of (shape_of op)).rs1) r.tokens)
    (λ l. with_offset r.span (with_rs1 d l.base) l.offset)

-- `offset(sp)`
abbrev pub stack_memory_slot : Op → Run → Draft → Reading Draft
stack_memory_slot op r d =
    and_then (memory (shape_of op) StackPointer r.tokens) (λ l. with_offset r.span d l.offset)

-- a register alone, or memory
abbrev pub register_or_memory : Op → Run → Draft → Option ℕ → Reading Draft
register_or_memory op r d (Some n) = Ok (with_rs1 d n)
register_or_memory op r d None = memory_slot op r d

abbrev pub memory_or_register_slot : Op → Run → Draft → Reading Draft
memory_or_register_slot op r d = register_or_memory op r d (register_in r.tokens)

-- an address that `rd` reaches, by two instructions
abbrev pub address_through_rd_slot : Run → Draft → Reading Draft
address_through_rd_slot r d = with_waiting PairTarget r.span (with_rs1 d d.fields.rd) (plain r.tokens)

-- `offset(register)`, or an address that `rd` reaches
abbrev pub memory_or_address_slot : Op → Run → Draft → Reading Draft
memory_or_address_slot op r d =
    if punctuation_at (codes "%") r.tokens 0 || is_some (base_of r.tokens)
    then memory_slot op r d
    else address_through_rd_slot r d

-- the number of a control and status register, or an expression for it
abbrev pub csr_or_expression : Run → Draft → Option ℕ → Reading Draft
csr_or_expression r d (Some n) = Ok (with_value d (pos n))
csr_or_expression r d None = with_waiting Immediate r.span d (plain r.tokens)

abbrev pub csr_slot : Run → Draft → Reading Draft
csr_slot r d = csr_or_expression r d (csr_in r.tokens)

-- the sets of a fence
abbrev pub predecessors_slot : List SpelledToken → Draft → Reading Draft
predecessors_slot run d = and_then (set run) (λ n. Ok (with_rs1 d n))

abbrev pub successors_slot : List SpelledToken → Draft → Reading Draft
successors_slot run d = and_then (set run) (λ n. Ok (with_rs2 d n))

-- the draft with what a slot reads from a run, or what is wrong with the run
abbrev pub slot_of : Op → Slot → Run → Draft → Reading Draft
slot_of op slot.Rd r d = register_slot (Class (classes_of (shape_of op)).rd) r.tokens (with_rd d)
slot_of op slot.Rs1 r d = register_slot (Class (classes_of (shape_of op)).rs1) r.tokens (with_rs1 d)
slot_of op slot.Rs2 r d = register_slot (Class (classes_of (shape_of op)).rs2) r.tokens (with_rs2 d)
slot_of op slot.StackPointer r d = register_slot StackPointer r.tokens (λ n. d)
slot_of op slot.Immediate r d = with_waiting Immediate r.span d (immediate (shape_of op) r.tokens)
slot_of op slot.SourceImmediate r d = with_waiting SourceImmediate r.span d (plain r.tokens)
slot_of op slot.Target r d = with_waiting Target r.span d (plain r.tokens)
slot_of op slot.Memory r d = memory_slot op r d
slot_of op slot.StackMemory r d = stack_memory_slot op r d
slot_of op slot.Base r d = base_slot (Class (classes_of (shape_of op)).rs1) r.tokens d
slot_of op slot.MemoryOrRegister r d = memory_or_register_slot op r d
slot_of op slot.MemoryOrAddress r d = memory_or_address_slot op r d
slot_of op slot.Address r d = with_waiting PairTarget r.span d (plain r.tokens)
slot_of op slot.AddressThroughRd r d = address_through_rd_slot r d
slot_of op slot.Csr r d = csr_slot r d
slot_of op slot.Predecessors r d = predecessors_slot r.tokens d
slot_of op slot.Successors r d = successors_slot r.tokens d
slot_of op slot.Constant r d = with_waiting Constant r.span d (plain r.tokens)

abbrev pub operand_of_slot : Op → Slot → Run → Draft → Result Draft Fault
operand_of_slot op s r d = operand_of_run r (slot_of op s r d)

-- the runs from left to right, up to the first fault
abbrev pub slots_read : Op → List Slot → List Run → Draft → Result Draft Fault
slots_read op [] rs d = Ok d
slots_read op (s ∷ ss) [] d = Ok d
slots_read op (s ∷ ss) (r ∷ rs) d = and_then (operand_of_slot op s r d) (λ d. slots_read op ss rs d)
