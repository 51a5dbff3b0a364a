-- The text of an instruction. (docs/LANGUAGE.md, Disassembly)
use Rattle.std.specs.Prelude.{ℕ, ℤ, ◌+◌, ◌%◌, ◌^◌, false, List, [], ◌∷◌, ◌++◌, map, Option, Some, None, codes, unsigned_abs, decimal}
use Rattle.std.specs.Fmt.{digits, signed_decimal}
use Rattle.std.specs.Int.{cast_unsigned, w32}
use Rattle.rv_text.specs.Rows.{hex}
use Rattle.rv_ops.specs.Csrs.{csr_name}
use Rattle.rv_ops.specs.Registers.{register_name}
use Rattle.rv_ops.specs.Table.{shape_of, operation_name}
use Rattle.rv_ops.specs.declared.op.Op.{Op}
use Rattle.rv_ops.specs.declared.op.Shape.{Shape}
use Rattle.rv_ops.specs.declared.op.Shape.TheVariants as shape
use Rattle.rv_code.specs.declared.instruction.Fields.{Fields}
use Rattle.rv_stmt.specs.declared.slots.Slot.{Slot}
use Rattle.rv_stmt.specs.declared.slots.Slot.TheVariants as slot
use Rattle.rv_stmt.specs.Forms.{slots_of}
use Rattle.rv_stmt.specs.Registers.{set_name}

-- `0x` and hexadecimal digits, without leading zeros
abbrev pub hexadecimal : ℕ → List ℕ
hexadecimal n = codes "0x" ++ digits 16 false n

-- `0x` and so many hexadecimal digits
abbrev pub hexadecimal_of : (count : ℕ) → ℕ → List ℕ
hexadecimal_of count n = codes "0x" ++ hex count n

-- an immediate: the upper 20 bits in hexadecimal digits, any other in decimal ones
abbrev pub immediate_text : Shape → ℤ → List ℕ
immediate_text shape.Upper v = hexadecimal (unsigned_abs v)
immediate_text shape.CUpper v = hexadecimal (unsigned_abs v)
immediate_text s v = signed_decimal v

-- the target of a branch or a jump: so far from its address, modulo 2 ^ 32
abbrev pub target_of : (address : ℕ) → (displacement : ℤ) → ℕ
target_of address displacement = (address + cast_unsigned w32 displacement) % 2 ^ 32

-- `(register)`
abbrev pub base_text : (base : ℕ) → List ℕ
base_text base = codes "(" ++ (register_name base ++ codes ")")

-- `offset(register)`
abbrev pub memory_text : (offset : ℤ) → (base : ℕ) → List ℕ
memory_text offset base = signed_decimal offset ++ base_text base

-- a control and status register: its name, or its number where it has none
abbrev pub csr_text : Option (List ℕ) → (number : ℕ) → List ℕ
csr_text None number = hexadecimal_of 3 number
csr_text (Some name) number = name

-- a set that has a name, as every set of a fence has
abbrev pub set_text : Option (List ℕ) → List ℕ
set_text None = []
set_text (Some name) = name

-- An operand of an instruction at an address. The last three slots are those of other ways to write an instruction than
-- the operation's own.
abbrev pub operand_text : (address : ℕ) → Shape → Fields → Slot → List ℕ
operand_text address s f slot.Rd = register_name f.rd
operand_text address s f slot.Rs1 = register_name f.rs1
operand_text address s f slot.Rs2 = register_name f.rs2
operand_text address s f slot.StackPointer = register_name 2
operand_text address s f slot.Immediate = immediate_text s f.value
operand_text address s f slot.SourceImmediate = decimal f.rs1
operand_text address s f slot.Target = hexadecimal_of 8 (target_of address f.value)
operand_text address s f slot.Memory = memory_text f.value f.rs1
operand_text address s f slot.StackMemory = memory_text f.value 2
operand_text address s f slot.Base = base_text f.rs1
operand_text address s f slot.MemoryOrRegister = memory_text f.value f.rs1
operand_text address s f slot.MemoryOrAddress = memory_text f.value f.rs1
operand_text address s f slot.Csr = csr_text (csr_name (unsigned_abs f.value)) (unsigned_abs f.value)
operand_text address s f slot.Predecessors = set_text (set_name f.rs1)
operand_text address s f slot.Successors = set_text (set_name f.rs2)
operand_text address s f slot.Address = []
operand_text address s f slot.AddressThroughRd = []
operand_text address s f slot.Constant = []

-- the operands after the first
abbrev pub after_comma : List (List ℕ) → List ℕ
after_comma [] = []
after_comma (t ∷ ts) = codes ", " ++ (t ++ after_comma ts)

-- the operands after a name
abbrev pub after_name : List (List ℕ) → List ℕ
after_name [] = []
after_name (t ∷ ts) = codes " " ++ (t ++ after_comma ts)

-- the text of an instruction at an address: its mnemonic, and its operands in the order in which they are written
unfoldable pub instruction_text : (address : ℕ) → Op → Fields → List ℕ
instruction_text address o f =
    operation_name o ++ after_name (map (operand_text address (shape_of o) f) (slots_of (shape_of o)))
