-- Worked lines, computed on the definitions.
use denote.Enum.Declared.{tag_of}
use Rattle.std.proofs.Common.{◌≡◌, refl}
use Rattle.std.specs.Prelude.{ℕ, ℤ, pos, negsuc, List, [], ◌∷◌, map, codes}
use Rattle.rv_text.specs.declared.faults.FaultNumber.{FaultNumber}
use Rattle.rv_text.specs.declared.faults.FaultNumber.TheVariants.{BadNumber, BadString, NoStatement, UnknownName, OperandCount, BadRegister, RegisterRange, BadOperand, TooDeep}
use Rattle.rv_ops.specs.Csrs.{csr_named, csr_names}
use Rattle.rv_ops.specs.Registers.{register_named, register_names}
use Rattle.rv_ops.specs.Table.{operation_named, operation_names, row_of, layout_of}
use Rattle.rv_ops.specs.contracts.op.Shape.{the_type as shape_type}
use Rattle.rv_ops.specs.declared.op.Op.{Op}
use Rattle.rv_ops.specs.declared.op.Op.TheVariants as op
use Rattle.rv_expr.specs.declared.tree.BinaryOp.TheVariants.{Add}
use Rattle.rv_expr.specs.declared.tree.Direction.TheVariants.{Forward}
use Rattle.rv_expr.specs.declared.tree.LabelReference.TheVariants as label
use Rattle.rv_expr.specs.Tree.{Tree, Number, Symbol, Here, Binary}
use Rattle.rv_stmt.specs.declared.operand.Role.{Role}
use Rattle.rv_stmt.specs.declared.operand.Role.TheVariants.{Immediate, SourceImmediate, Target, PairTarget, Constant}
use Rattle.rv_stmt.specs.Directives.{directive_named, directive_names}
use Rattle.rv_stmt.specs.Draft.{fields}
use Rattle.rv_stmt.specs.declared.operand.Operand.{Operand}
use Rattle.rv_stmt.specs.declared.operand.OperandValue.{OperandValue}
use Rattle.rv_stmt.specs.declared.operand.OperandValue.TheVariants.{Plain, High, Low, PcrelLow}
use Rattle.rv_stmt.specs.declared.slots.TheConstants.{OPERANDS}
use Rattle.rv_stmt.specs.declared.statement.Body.{Body}
use Rattle.rv_stmt.specs.declared.statement.Body.TheVariants.{Empty, Instr, Pseudo, Faulty}
use Rattle.rv_stmt.specs.Forms.{other_forms, slots_of}
use Rattle.rv_stmt.specs.LabelNames as name
use Rattle.rv_stmt.specs.Registers.{set_named, set_names}
use Rattle.rv_stmt.specs.Statement.{statement_of}
use Rattle.rv_stmt.specs.Values.{modifier_named, modifier_names}

abbrev body : List ℕ → Body
body line = (statement_of line).body

-- each line has its body
abbrev are_bodies : List (List ℕ × Body) → Type 0
are_bodies rows = map (λ r. body r.0) rows ≡ map (λ r. r.1) rows

abbrev faulty : FaultNumber → ℕ → ℕ → Body
faulty number from to = Faulty (record { number = number; span = record { from = from; to = to } })

abbrev value : Tree → Role → ℕ → ℕ → Operand
value tree role from to = record { value = Plain tree; role = role; span = record { from = from; to = to } }

abbrev modified : OperandValue → ℕ → ℕ → Operand
modified v from to = record { value = v; role = Immediate; span = record { from = from; to = to } }

abbrev instr : ℕ → ℕ → Op → ℕ → ℕ → ℕ → ℤ → List Operand → Body
instr from to o rd rs1 rs2 v operands =
    Instr (record { name = record { from = from; to = to }; op = o; fields = fields rd rs1 rs2 v; operands = operands })

abbrev pseudo : ℕ → Op → ℕ → ℕ → ℕ → ℤ → List Operand → Body
pseudo to o rd rs1 rs2 v operands =
    Pseudo (record { name = record { from = 0; to = to }; op = o; fields = fields rd rs1 rs2 v; operands = operands })

-- labels, before a body that is right, faulty or empty

labels : (statement_of (codes "x: 07: 1: .: nop")).labels ≡ record { name = name.Symbol (codes "x"); span = record { from = 0; to = 1 } } ∷ []
labels = refl

local_labels : (statement_of (codes "1: x : 0:9999:")).labels ≡ record { name = name.Local 1; span = record { from = 0; to = 1 } } ∷ record { name = name.Symbol (codes "x"); span = record { from = 3; to = 4 } } ∷ record { name = name.Local 0; span = record { from = 7; to = 8 } } ∷ record { name = name.Local 9999; span = record { from = 9; to = 13 } } ∷ []
local_labels = refl

labels_before_a_fault : (statement_of (codes "nop: 'a")).labels ≡ record { name = name.Symbol (codes "nop"); span = record { from = 0; to = 3 } } ∷ []
labels_before_a_fault = refl

-- bodies without an instruction

abbrev bodies_rows : List (List ℕ × Body)
bodies_rows =
    (codes "", Empty)
    ∷ (codes " # x", Empty)
    ∷ (codes "x:", Empty)
    ∷ (codes "1b: nop", faulty NoStatement 0 2)
    ∷ (codes "01:", faulty NoStatement 0 2)
    ∷ (codes ".: nop", faulty UnknownName 0 1)
    ∷ (codes "nop 08", faulty BadNumber 4 6)
    ∷ (codes "li a0, 'ab'", faulty BadString 7 11)
    ∷ (codes "'a", faulty BadString 0 2)
    ∷ (codes "+ 'a", faulty BadString 2 4)
    ∷ (codes "frob 08", faulty BadNumber 5 7)
    ∷ (codes "+ nop", faulty NoStatement 0 1)
    ∷ (codes "frob a0", faulty UnknownName 0 4)
    ∷ []

bodies : are_bodies bodies_rows
unfolding operation_named operation_names other_forms directive_named directive_names
bodies = refl

-- an operation's own way

abbrev instructions_rows : List (List ℕ × Body)
instructions_rows =
    (codes "x: addi A0, a1, 1 # c", instr 3 7 op.Addi 10 11 0 (pos 0) (value (Number (pos 1)) Immediate 16 17 ∷ []))
    ∷ (codes "ADD a0,fp,x31", instr 0 3 op.Add 10 8 31 (pos 0) [])
    ∷ (codes "beq a0, a1, .+4094", instr 0 3 op.Beq 0 10 11 (pos 0) (value (Binary Add Here (Number (pos 4094))) Target 12 18 ∷ []))
    ∷ (codes "lw a0, (a1)", instr 0 2 op.Lw 10 11 0 (pos 0) [])
    ∷ (codes "sw a0, x+4(a1)", instr 0 2 op.Sw 0 11 10 (pos 0) (value (Binary Add (Symbol (codes "x")) (Number (pos 4))) Immediate 7 14 ∷ []))
    ∷ (codes "jalr a0, a1", instr 0 4 op.Jalr 10 11 0 (pos 0) [])
    ∷ (codes "jalr a0, 4(a1)", instr 0 4 op.Jalr 10 11 0 (pos 0) (value (Number (pos 4)) Immediate 9 14 ∷ []))
    ∷ (codes "amoadd.w a0, a1, 0(a2)", instr 0 8 op.AmoaddW 10 12 11 (pos 0) [])
    ∷ (codes "LR.W.aq a0, (a1)", instr 0 7 op.LrWAq 10 11 0 (pos 0) [])
    ∷ (codes "ecall", instr 0 5 op.Ecall 0 0 0 (pos 0) [])
    ∷ (codes "fence IR, w", instr 0 5 op.Fence 0 10 1 (pos 0) [])
    ∷ (codes "csrrw a0, mstatus, a1", instr 0 5 op.Csrrw 10 11 0 (pos 0x300) [])
    ∷ (codes "csrrwi a0, 5, n", instr 0 6 op.Csrrwi 10 0 0 (pos 0) (value (Number (pos 5)) Immediate 11 12 ∷ value (Symbol (codes "n")) SourceImmediate 14 15 ∷ []))
    ∷ []

instructions : are_bodies instructions_rows
unfolding operation_named operation_names other_forms row_of layout_of slots_of register_named register_names csr_named csr_names set_named set_names
instructions = refl

-- compressed forms

abbrev compressed_rows : List (List ℕ × Body)
compressed_rows =
    (codes "c.sub a0, a1", instr 0 5 op.CSub 10 0 11 (pos 0) [])
    ∷ (codes "c.mv ra, sp", instr 0 4 op.CMv 1 0 2 (pos 0) [])
    ∷ (codes "c.addi4spn a0, sp, 4", instr 0 10 op.CAddi4spn 10 0 0 (pos 0) (value (Number (pos 4)) Immediate 19 20 ∷ []))
    ∷ (codes "c.lw a0, 4(a1)", instr 0 4 op.CLw 10 11 0 (pos 0) (value (Number (pos 4)) Immediate 9 14 ∷ []))
    ∷ (codes "c.sw a0, (a1)", instr 0 4 op.CSw 0 11 10 (pos 0) [])
    ∷ (codes "c.swsp t0, 8(sp)", instr 0 6 op.CSwsp 0 0 5 (pos 0) (value (Number (pos 8)) Immediate 11 16 ∷ []))
    ∷ (codes "c.jr ra", instr 0 4 op.CJr 0 1 0 (pos 0) [])
    ∷ (codes "c.beqz a0, t", instr 0 6 op.CBeqz 0 10 0 (pos 0) (value (Symbol (codes "t")) Target 11 12 ∷ []))
    ∷ (codes "c.nop", instr 0 5 op.CNop 0 0 0 (pos 0) [])
    ∷ []

compressed : are_bodies compressed_rows
unfolding operation_named operation_names other_forms row_of layout_of slots_of register_named register_names
compressed = refl

-- faults of operands: their order, and their spans

abbrev faults_rows : List (List ℕ × Body)
faults_rows =
    (codes "add a0, a0, 1", faulty BadRegister 12 13)
    ∷ (codes "addi a0, a0", faulty OperandCount 0 4)
    ∷ (codes "c.lui sp, 1", faulty RegisterRange 6 8)
    ∷ (codes "addi ,a0,1", faulty BadRegister 4 4)
    ∷ (codes "addi a0 , , 1", faulty BadRegister 9 9)
    ∷ (codes "add a0, 1, 08", faulty BadNumber 11 13)
    ∷ (codes "add (a0, 1), 2", faulty OperandCount 0 3)
    ∷ (codes "fence rw", faulty OperandCount 0 5)
    ∷ (codes "fence wr, r", faulty BadOperand 6 8)
    ∷ (codes "li a0, 1_000", faulty BadOperand 7 12)
    ∷ (codes "c.addi16sp a0, 16", faulty RegisterRange 11 13)
    ∷ (codes "c.addi4spn a0, 4, 4", faulty BadRegister 15 16)
    ∷ (codes "c.lwsp a0, 4(a0)", faulty RegisterRange 11 16)
    ∷ []

faults : are_bodies faults_rows
unfolding operation_named operation_names other_forms row_of layout_of slots_of register_named register_names set_named set_names
faults = refl

-- memory operands, and those of two words

abbrev memory_rows : List (List ℕ × Body)
memory_rows =
    (codes "lw a0, x+(a1)", faulty BadOperand 7 13)
    ∷ (codes "lw a0, ((a1)", faulty BadOperand 7 12)
    ∷ (codes "lw a0, ((a1))", pseudo 2 op.Lw 10 10 0 (pos 0) (value (Symbol (codes "a1")) PairTarget 7 13 ∷ []))
    ∷ (codes "sw a0, (a1), t0", pseudo 2 op.Sw 0 5 10 (pos 0) (value (Symbol (codes "a1")) PairTarget 7 11 ∷ []))
    ∷ (codes "sw a0, 4(a1), t0", faulty BadOperand 7 12)
    ∷ (codes "amoadd.w a0, a1, 4(a2)", faulty BadOperand 17 22)
    ∷ (codes "lr.w a0, -0(a1)", faulty BadOperand 9 15)
    ∷ (codes "lr.w a0, '\\0'(a1)", faulty BadOperand 9 17)
    ∷ (codes "lr.w a0, %lo(0)(a1)", faulty BadOperand 9 19)
    ∷ (codes "lr.w a0, %lo(0)", faulty BadRegister 9 15)
    ∷ (codes "lr.w a0, %lo(a1)", faulty BadRegister 9 16)
    ∷ (codes "lr.w a0, %(a1)", faulty BadRegister 9 14)
    ∷ (codes "lr.w a0, %(0)(a1)", faulty BadOperand 9 17)
    ∷ (codes "lr.w a0, %l-o(0)(a1)", faulty BadRegister 9 20)
    ∷ (codes "lw a0,", faulty BadOperand 6 6)
    ∷ (codes "c.lw a0,", faulty BadRegister 8 8)
    ∷ (codes "sw a0,", faulty BadRegister 6 6)
    ∷ (codes "jalr a0,", faulty BadRegister 8 8)
    ∷ (codes "sw a0,,t0", faulty BadOperand 6 6)
    ∷ (codes "jalr a0, x", faulty BadRegister 9 10)
    ∷ (codes "sw a0, x", faulty BadRegister 7 8)
    ∷ []

memory : are_bodies memory_rows
unfolding operation_named operation_names other_forms row_of layout_of slots_of register_named register_names
memory = refl

-- modifiers

abbrev modifiers_rows : List (List ℕ × Body)
modifiers_rows =
    (codes "lui a0, %HI(x+1)", instr 0 3 op.Lui 10 0 0 (pos 0) (modified (High (Binary Add (Symbol (codes "x")) (Number (pos 1)))) 8 16 ∷ []))
    ∷ (codes "addi a0, a0, %lo(x)", instr 0 4 op.Addi 10 10 0 (pos 0) (modified (Low (Symbol (codes "x"))) 13 19 ∷ []))
    ∷ (codes "addi a0, a0, %lo(x)+1", faulty BadOperand 13 21)
    ∷ (codes "lw a0, %pcrel_lo(1f)(a1)", instr 0 2 op.Lw 10 11 0 (pos 0) (modified (PcrelLow (label.Local 1 Forward)) 7 24 ∷ []))
    ∷ (codes "lw a0, %lo(x)", faulty BadRegister 7 13)
    ∷ (codes "lw a0, %lo(a0)", faulty BadRegister 7 14)
    ∷ (codes "lw a0, %foo(x)(a0)", faulty BadOperand 7 18)
    ∷ (codes "lw a0, %hi(x)(a0)", faulty BadOperand 7 17)
    ∷ (codes "lw a0, %5(x)(a0)", faulty BadRegister 7 16)
    ∷ (codes "lw a0, %lo x(a0)", faulty BadRegister 7 16)
    ∷ (codes "lw a0, %lo(x)+1(a0)", faulty BadRegister 7 19)
    ∷ (codes "lw a0, %lo(x)(4)", faulty BadRegister 7 16)
    ∷ (codes "lw a0, %lo(x)(a0)(a1)", faulty BadRegister 7 21)
    ∷ (codes "lw a0, %lo((x)(a0)", faulty BadRegister 7 18)
    ∷ (codes "c.lw a0, %lo(x)(a1)", faulty BadOperand 9 19)
    ∷ (codes "c.lw a0, %lo(x)(t0)", faulty RegisterRange 9 19)
    ∷ (codes "c.lw a0, %lo(x)", faulty BadRegister 9 15)
    ∷ (codes "addi a0, a0, %pcrel_lo((x))", faulty BadOperand 13 27)
    ∷ (codes "addi a0, a0, %pcrel_lo(4)", faulty BadOperand 13 25)
    ∷ (codes "addi a0, a0, %pcrel_lo(.)", instr 0 4 op.Addi 10 10 0 (pos 0) (modified (PcrelLow label.Here) 13 25 ∷ []))
    ∷ (codes "slli a0, a0, %lo(x)", faulty BadOperand 13 19)
    ∷ []

modifiers : are_bodies modifiers_rows
unfolding operation_named operation_names other_forms row_of layout_of slots_of register_named register_names modifier_named modifier_names
modifiers = refl

-- names that stand for operations on registers

abbrev on_registers_rows : List (List ℕ × Body)
on_registers_rows =
    (codes "nop", pseudo 3 op.Addi 0 0 0 (pos 0) [])
    ∷ (codes "mv a0, a1", pseudo 2 op.Addi 10 11 0 (pos 0) [])
    ∷ (codes "not a0, a1", pseudo 3 op.Xori 10 11 0 (negsuc 0) [])
    ∷ (codes "neg a0, a1", pseudo 3 op.Sub 10 0 11 (pos 0) [])
    ∷ (codes "seqz a0, a1", pseudo 4 op.Sltiu 10 11 0 (pos 1) [])
    ∷ (codes "snez a0, a1", pseudo 4 op.Sltu 10 0 11 (pos 0) [])
    ∷ (codes "sltz a0, a1", pseudo 4 op.Slt 10 11 0 (pos 0) [])
    ∷ (codes "sgtz a0, a1", pseudo 4 op.Slt 10 0 11 (pos 0) [])
    ∷ (codes "sgt a0, a1, a2", pseudo 3 op.Slt 10 12 11 (pos 0) [])
    ∷ (codes "sgtu a0, a1, a2", pseudo 4 op.Sltu 10 12 11 (pos 0) [])
    ∷ []

on_registers : are_bodies on_registers_rows
unfolding operation_named operation_names other_forms row_of layout_of slots_of register_named register_names csr_named csr_names
on_registers = refl

-- names that stand for branches and jumps

abbrev jumps_rows : List (List ℕ × Body)
jumps_rows =
    (codes "beqz a0, t", pseudo 4 op.Beq 0 10 0 (pos 0) (value (Symbol (codes "t")) Target 9 10 ∷ []))
    ∷ (codes "bnez a0, t", pseudo 4 op.Bne 0 10 0 (pos 0) (value (Symbol (codes "t")) Target 9 10 ∷ []))
    ∷ (codes "bgez a0, t", pseudo 4 op.Bge 0 10 0 (pos 0) (value (Symbol (codes "t")) Target 9 10 ∷ []))
    ∷ (codes "bltz a0, t", pseudo 4 op.Blt 0 10 0 (pos 0) (value (Symbol (codes "t")) Target 9 10 ∷ []))
    ∷ (codes "blez a0, t", pseudo 4 op.Bge 0 0 10 (pos 0) (value (Symbol (codes "t")) Target 9 10 ∷ []))
    ∷ (codes "bgtz a0, t", pseudo 4 op.Blt 0 0 10 (pos 0) (value (Symbol (codes "t")) Target 9 10 ∷ []))
    ∷ (codes "bgt a0, a1, t", pseudo 3 op.Blt 0 11 10 (pos 0) (value (Symbol (codes "t")) Target 12 13 ∷ []))
    ∷ (codes "ble a0, a1, t", pseudo 3 op.Bge 0 11 10 (pos 0) (value (Symbol (codes "t")) Target 12 13 ∷ []))
    ∷ (codes "bgtu a0, a1, t", pseudo 4 op.Bltu 0 11 10 (pos 0) (value (Symbol (codes "t")) Target 13 14 ∷ []))
    ∷ (codes "bleu a0, a1, t", pseudo 4 op.Bgeu 0 11 10 (pos 0) (value (Symbol (codes "t")) Target 13 14 ∷ []))
    ∷ (codes "j t", pseudo 1 op.Jal 0 0 0 (pos 0) (value (Symbol (codes "t")) Target 2 3 ∷ []))
    ∷ (codes "jal t", pseudo 3 op.Jal 1 0 0 (pos 0) (value (Symbol (codes "t")) Target 4 5 ∷ []))
    ∷ (codes "jr a0", pseudo 2 op.Jalr 0 10 0 (pos 0) [])
    ∷ (codes "jalr a0", pseudo 4 op.Jalr 1 10 0 (pos 0) [])
    ∷ (codes "ret", pseudo 3 op.Jalr 0 1 0 (pos 0) [])
    ∷ []

jumps : are_bodies jumps_rows
unfolding operation_named operation_names other_forms row_of layout_of slots_of register_named register_names csr_named csr_names
jumps = refl

-- names that stand for operations on control and status registers

abbrev on_csrs_rows : List (List ℕ × Body)
on_csrs_rows =
    (codes "csrr a0, mepc", pseudo 4 op.Csrrs 10 0 0 (pos 0x341) [])
    ∷ (codes "csrw mepc, a0", pseudo 4 op.Csrrw 0 10 0 (pos 0x341) [])
    ∷ (codes "csrs mepc, a0", pseudo 4 op.Csrrs 0 10 0 (pos 0x341) [])
    ∷ (codes "csrc mepc, a0", pseudo 4 op.Csrrc 0 10 0 (pos 0x341) [])
    ∷ (codes "csrwi mepc, t", pseudo 5 op.Csrrwi 0 0 0 (pos 0x341) (value (Symbol (codes "t")) SourceImmediate 12 13 ∷ []))
    ∷ (codes "csrsi mepc, t", pseudo 5 op.Csrrsi 0 0 0 (pos 0x341) (value (Symbol (codes "t")) SourceImmediate 12 13 ∷ []))
    ∷ (codes "csrci mepc, t", pseudo 5 op.Csrrci 0 0 0 (pos 0x341) (value (Symbol (codes "t")) SourceImmediate 12 13 ∷ []))
    ∷ (codes "rdcycle a0", pseudo 7 op.Csrrs 10 0 0 (pos 0xC00) [])
    ∷ (codes "rdtime a0", pseudo 6 op.Csrrs 10 0 0 (pos 0xC01) [])
    ∷ (codes "rdinstret a0", pseudo 9 op.Csrrs 10 0 0 (pos 0xC02) [])
    ∷ (codes "rdcycleh a0", pseudo 8 op.Csrrs 10 0 0 (pos 0xC80) [])
    ∷ (codes "rdtimeh a0", pseudo 7 op.Csrrs 10 0 0 (pos 0xC81) [])
    ∷ (codes "rdinstreth a0", pseudo 10 op.Csrrs 10 0 0 (pos 0xC82) [])
    ∷ []

on_csrs : are_bodies on_csrs_rows
unfolding operation_named operation_names other_forms row_of layout_of slots_of register_named register_names csr_named csr_names
on_csrs = refl

-- addresses that two words reach

abbrev in_two_words_rows : List (List ℕ × Body)
in_two_words_rows =
    (codes "la a0, t", pseudo 2 op.Addi 10 10 0 (pos 0) (value (Symbol (codes "t")) PairTarget 7 8 ∷ []))
    ∷ (codes "lla a0, t", pseudo 3 op.Addi 10 10 0 (pos 0) (value (Symbol (codes "t")) PairTarget 8 9 ∷ []))
    ∷ (codes "call t", pseudo 4 op.Jalr 1 1 0 (pos 0) (value (Symbol (codes "t")) PairTarget 5 6 ∷ []))
    ∷ (codes "tail t", pseudo 4 op.Jalr 0 6 0 (pos 0) (value (Symbol (codes "t")) PairTarget 5 6 ∷ []))
    ∷ (codes "lb a0, t", pseudo 2 op.Lb 10 10 0 (pos 0) (value (Symbol (codes "t")) PairTarget 7 8 ∷ []))
    ∷ (codes "lh a0, t", pseudo 2 op.Lh 10 10 0 (pos 0) (value (Symbol (codes "t")) PairTarget 7 8 ∷ []))
    ∷ (codes "lw a0, t", pseudo 2 op.Lw 10 10 0 (pos 0) (value (Symbol (codes "t")) PairTarget 7 8 ∷ []))
    ∷ (codes "lbu a0, t", pseudo 3 op.Lbu 10 10 0 (pos 0) (value (Symbol (codes "t")) PairTarget 8 9 ∷ []))
    ∷ (codes "lhu a0, t", pseudo 3 op.Lhu 10 10 0 (pos 0) (value (Symbol (codes "t")) PairTarget 8 9 ∷ []))
    ∷ []

in_two_words : are_bodies in_two_words_rows
unfolding operation_named operation_names other_forms row_of layout_of slots_of register_named register_names csr_named csr_names
in_two_words = refl

-- a constant; operands left out, and a further way

abbrev others_rows : List (List ℕ × Body)
others_rows =
    (codes "li a0, t", pseudo 2 op.Addi 10 0 0 (pos 0) (value (Symbol (codes "t")) Constant 7 8 ∷ []))
    ∷ (codes "fence", pseudo 5 op.Fence 0 15 15 (pos 0) [])
    ∷ (codes "jalr a0, a1, t", pseudo 4 op.Jalr 10 11 0 (pos 0) (value (Symbol (codes "t")) Immediate 13 14 ∷ []))
    ∷ []

others : are_bodies others_rows
unfolding operation_named operation_names other_forms row_of layout_of slots_of register_named register_names csr_named csr_names
others = refl

abbrev stores_rows : List (List ℕ × Body)
stores_rows =
    (codes "sb a0, t, a1", pseudo 2 op.Sb 0 11 10 (pos 0) (value (Symbol (codes "t")) PairTarget 7 8 ∷ []))
    ∷ (codes "sh a0, t, a1", pseudo 2 op.Sh 0 11 10 (pos 0) (value (Symbol (codes "t")) PairTarget 7 8 ∷ []))
    ∷ (codes "sw a0, t, a1", pseudo 2 op.Sw 0 11 10 (pos 0) (value (Symbol (codes "t")) PairTarget 7 8 ∷ []))
    ∷ []

stores : are_bodies stores_rows
unfolding operation_named operation_names other_forms row_of layout_of slots_of register_named register_names
stores = refl

-- 64 open parentheses are read, 65 are too deep, whatever else the run is

abbrev depth_rows : List (List ℕ × Body)
depth_rows =
    (codes "addi a0, a0, ((((((((((((((((((((((((((((((((((((((((((((((((((((((((((((((((1))))))))))))))))))))))))))))))))))))))))))))))))))))))))))))))))", instr 0 4 op.Addi 10 10 0 (pos 0) (value (Number (pos 1)) Immediate 13 142 ∷ []))
    ∷ (codes "addi a0, a0, (((((((((((((((((((((((((((((((((((((((((((((((((((((((((((((((((1)))))))))))))))))))))))))))))))))))))))))))))))))))))))))))))))))", faulty TooDeep 13 144)
    ∷ (codes "addi a0, a0, %lo(((((((((((((((((((((((((((((((((((((((((((((((((((((((((((((((((1)))))))))))))))))))))))))))))))))))))))))))))))))))))))))))))))))", faulty TooDeep 13 147)
    ∷ (codes "add a0, (((((((((((((((((((((((((((((((((((((((((((((((((((((((((((((((((", faulty OperandCount 0 3)
    ∷ (codes "add a0, ((((((((((((((((((((((((((((((((((((((((((((((((((((((((((((((((())))))))))))))))))))))))))))))))))))))))))))))))))))))))))))))))), a1", faulty TooDeep 8 138)
    ∷ (codes "add 1, a0, ((((((((((((((((((((((((((((((((((((((((((((((((((((((((((((((((()))))))))))))))))))))))))))))))))))))))))))))))))))))))))))))))))", faulty BadRegister 4 5)
    ∷ []

depth : are_bodies depth_rows
unfolding operation_named operation_names other_forms row_of layout_of slots_of register_named register_names
depth = refl

-- the table of operands is in the order of the shapes

operands_in_order : map (λ row. tag_of shape_type row.0) OPERANDS ≡ 0 ∷ 1 ∷ 2 ∷ 3 ∷ 4 ∷ 5 ∷ 6 ∷ 7 ∷ 8 ∷ 9 ∷ 10 ∷ 11 ∷ 12 ∷ 13 ∷ 14 ∷ 15 ∷ 16 ∷ 17 ∷ 18 ∷ 19 ∷ 20 ∷ 21 ∷ 22 ∷ 23 ∷ 24 ∷ 25 ∷ 26 ∷ 27 ∷ 28 ∷ 29 ∷ 30 ∷ 31 ∷ 32 ∷ []
operands_in_order = refl
