-- The instructions that a line stands for, once its fields are filled: RISC-V Unprivileged ISA 20191213, chapter 25,
-- tables 25.2 and 25.3. (docs/LANGUAGE.md, Pseudo-instructions)
use Rattle.std.specs.Prelude.{ℕ, ℤ, pos, ◌+◌, Bool, true, false, List, [], ◌∷◌, if◌then◌else◌}
use Rattle.std.specs.Ordering.{int_eq}
use Rattle.rv_ops.specs.Table.{is_full}
use Rattle.rv_ops.specs.declared.op.Op.{Op}
use Rattle.rv_ops.specs.declared.op.Op.TheVariants.{Auipc, Lui}
use Rattle.rv_code.specs.Encoding.{is_immediate}
use Rattle.rv_code.specs.declared.instruction.Fields.{Fields}
use Rattle.rv_stmt.specs.declared.expansion.Expansion.{Expansion}
use Rattle.rv_stmt.specs.declared.expansion.Expansion.TheVariants.{Itself, AddressPair, ConstantLoad}
use Rattle.rv_stmt.specs.declared.expansion.Instructions.{Instructions}
use Rattle.rv_stmt.specs.declared.expansion.Instructions.TheVariants.{One, Two}
use Rattle.rv_stmt.specs.declared.expansion.MachineInstruction.{MachineInstruction}
use Rattle.rv_stmt.specs.declared.operand.Operand.{Operand}
use Rattle.rv_stmt.specs.declared.operand.Role.{Role}
use Rattle.rv_stmt.specs.declared.operand.Role.TheVariants.{PairTarget, Constant}
use Rattle.rv_stmt.specs.declared.statement.Instruction.{Instruction}
use Rattle.rv_stmt.specs.Draft.{fields}
use Rattle.rv_stmt.specs.ValueParts.{high_part, low_part}

-- what a line expands to by the role of an operand; `rest` is what it expands to by those after it
abbrev pub expansion_by_role : Role → Expansion → Expansion
expansion_by_role PairTarget rest = AddressPair
expansion_by_role Constant rest = ConstantLoad
expansion_by_role role rest = rest

-- what a line with these operands expands to
abbrev pub expansion_of : List Operand → Expansion
expansion_of [] = Itself
expansion_of (o ∷ os) = expansion_by_role o.role (expansion_of os)

abbrev pub machine : Op → Fields → MachineInstruction
machine op f = record { op = op; fields = f }

-- `auipc rs1, high`, and the operation with the low part: they reach the address that is so far from that of the line
abbrev pub address_pair : Op → Fields → Instructions
address_pair op f =
    Two
    (machine Auipc (fields f.rs1 0 0 (high_part f.value)))
    (machine op (fields f.rd f.rs1 f.rs2 (low_part f.value)))

-- `lui rd, high`, and the operation that adds the low part to `rd`, unless that part is 0
abbrev pub upper_load : Op → (rd : ℕ) → (high low : ℤ) → Instructions
upper_load op rd high low =
    if int_eq low (pos 0)
    then One (machine Lui (fields rd 0 0 high))
    else Two (machine Lui (fields rd 0 0 high)) (machine op (fields rd rd 0 low))

-- the operation alone where the constant is an immediate
abbrev pub constant_load : Op → Fields → Instructions
constant_load op f =
    if is_immediate f.value then One (machine op f)
    else upper_load op f.rd (high_part f.value) (low_part f.value)

-- the instructions of an operation with these fields. Their value is a displacement in an address pair, and the constant
-- in a constant load.
abbrev pub expanded : Expansion → Op → Fields → Instructions
expanded Itself op f = One (machine op f)
expanded AddressPair op f = address_pair op f
expanded ConstantLoad op f = constant_load op f

-- the instructions that a line stands for, with these fields
abbrev pub instructions_of : Instruction → Fields → Instructions
instructions_of i f = expanded (expansion_of i.operands) i.op f

-- a line whose number of instructions depends on a value
abbrev pub is_constant_load : Expansion → Bool
is_constant_load ConstantLoad = true
is_constant_load expansion = false

-- how many bytes an operation's encoding has
abbrev pub size_of_word : Op → ℕ
size_of_word op = if is_full op then 4 else 2

-- how many bytes they have
abbrev pub size_of_instructions : Instructions → ℕ
size_of_instructions (One i) = size_of_word i.op
size_of_instructions (Two i j) = size_of_word i.op + size_of_word j.op
