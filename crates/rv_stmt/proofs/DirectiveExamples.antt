-- Worked lines with directives, computed on the definitions.
use Rattle.std.proofs.Common.{◌≡◌, refl}
use Rattle.std.specs.Prelude.{ℕ, pos, List, [], ◌∷◌, map, codes}
use Rattle.rv_text.specs.declared.faults.FaultNumber.{FaultNumber}
use Rattle.rv_text.specs.declared.faults.FaultNumber.TheVariants.{BadNumber, BadString, UnknownName, OperandCount, BadOperand, TooDeep}
use Rattle.rv_text.specs.declared.lexeme.Span.{Span}
use Rattle.rv_expr.specs.declared.tree.BinaryOp.TheVariants.{Sub}
use Rattle.rv_expr.specs.declared.tree.UnaryOp.TheVariants.{Neg}
use Rattle.rv_expr.specs.Tree.{Tree, Number, Symbol, Here, Unary, Binary}
use Rattle.rv_stmt.specs.declared.directive.DataContent.TheVariants.{Values, Bytes}
use Rattle.rv_stmt.specs.declared.operand.AlignmentUnit.TheVariants as unit
use Rattle.rv_stmt.specs.declared.operand.DataWidth.TheVariants.{Byte, Half, Word}
use Rattle.rv_stmt.specs.declared.operand.Operand.{Operand}
use Rattle.rv_stmt.specs.declared.operand.OperandValue.TheVariants.{Plain}
use Rattle.rv_stmt.specs.declared.operand.Role.{Role}
use Rattle.rv_stmt.specs.declared.operand.Role.TheVariants as role
use Rattle.rv_stmt.specs.declared.section.Sect.TheVariants.{Init, Text, Rodata, Rwdata, Sdata, Bss}
use Rattle.rv_stmt.specs.declared.statement.Body.{Body}
use Rattle.rv_stmt.specs.declared.statement.Body.TheVariants.{Emit, Fill, Align, Switch, Equ, Ignored, Faulty}
use Rattle.rv_stmt.specs.Directives.{directive_named, directive_names}
use Rattle.rv_stmt.specs.Sections.{section_named, section_names}
use Rattle.rv_stmt.specs.Statement.{statement_of}

abbrev body : List ℕ → Body
body line = (statement_of line).body

-- each line has its body
abbrev are_bodies : List (List ℕ × Body) → Type 0
are_bodies rows = map (λ r. body r.0) rows ≡ map (λ r. r.1) rows

abbrev span : ℕ → ℕ → Span
span from to = record { from = from; to = to }

abbrev faulty : FaultNumber → ℕ → ℕ → Body
faulty number from to = Faulty (record { number = number; span = span from to })

abbrev value : Tree → Role → ℕ → ℕ → Operand
value tree role from to = record { value = Plain tree; role = role; span = span from to }

abbrev values : ℕ → ℕ → List Operand → Body
values from to operands = Emit (record { name = span from to; content = Values operands })

abbrev bytes : ℕ → List ℕ → Body
bytes to bs = Emit (record { name = span 0 to; content = Bytes bs })

abbrev fill : ℕ → List Operand → Body
fill to operands = Fill (record { name = span 0 to; operands = operands })

abbrev align : ℕ → List Operand → Body
align to operands = Align (record { name = span 0 to; operands = operands })

abbrev equ : List ℕ → ℕ → ℕ → Operand → Body
equ symbol from to operand = Equ (record { symbol = symbol; span = span from to; operands = operand ∷ [] })

-- data

abbrev data_rows : List (List ℕ × Body)
data_rows =
    (codes ".byte 1, -1, 'A'", values 0 5 (value (Number (pos 1)) (role.Data Byte) 6 7 ∷ value (Unary Neg (Number (pos 1))) (role.Data Byte) 9 11 ∷ value (Number (pos 65)) (role.Data Byte) 13 16 ∷ []))
    ∷ (codes "x: .2BYTE x", values 3 9 (value (Symbol (codes "x")) (role.Data Half) 10 11 ∷ []))
    ∷ (codes ".long .", values 0 5 (value Here (role.Data Word) 6 7 ∷ []))
    ∷ (codes ".word %hi(x)", faulty BadOperand 6 12)
    ∷ (codes ".half 1,", faulty BadOperand 8 8)
    ∷ (codes ".word", faulty OperandCount 0 5)
    ∷ (codes ".byte \"a\"", faulty BadOperand 6 9)
    ∷ []

data_lines : are_bodies data_rows
unfolding directive_named directive_names
data_lines = refl

-- strings

abbrev string_rows : List (List ℕ × Body)
string_rows =
    (codes ".asciz \"hi\\n\"", bytes 6 (104 ∷ 105 ∷ 10 ∷ 0 ∷ []))
    ∷ (codes ".ascii \"\", \"'\\\"\", \"\\1234\"", bytes 6 (0x27 ∷ 0x22 ∷ 0x53 ∷ 0x34 ∷ []))
    ∷ (codes ".string \"a\", \"\"", bytes 7 (97 ∷ 0 ∷ 0 ∷ []))
    ∷ (codes ".string \"a\" \"b\"", faulty BadOperand 8 15)
    ∷ (codes ".ascii 1", faulty BadOperand 7 8)
    ∷ (codes ".ascii 'a'", faulty BadOperand 7 10)
    ∷ (codes ".ascii", faulty OperandCount 0 6)
    ∷ (codes ".ascii \"a", faulty BadString 7 9)
    ∷ []

string_lines : are_bodies string_rows
unfolding directive_named directive_names
string_lines = refl

-- fills and alignments

abbrev fill_rows : List (List ℕ × Body)
fill_rows =
    (codes ".space 4, 300", fill 6 (value (Number (pos 4)) role.Size 7 8 ∷ value (Number (pos 300)) role.FillByte 10 13 ∷ []))
    ∷ (codes ".skip N", fill 5 (value (Symbol (codes "N")) role.Size 6 7 ∷ []))
    ∷ (codes ".zero 8", fill 5 (value (Number (pos 8)) role.Size 6 7 ∷ []))
    ∷ (codes ".zero 8, 1", faulty OperandCount 0 5)
    ∷ (codes ".space", faulty OperandCount 0 6)
    ∷ (codes ".space 1, 2, 3", faulty OperandCount 0 6)
    ∷ (codes ".align 2", align 6 (value (Number (pos 2)) (role.Alignment unit.Exponent) 7 8 ∷ []))
    ∷ (codes ".p2align 2", align 8 (value (Number (pos 2)) (role.Alignment unit.Exponent) 9 10 ∷ []))
    ∷ (codes ".balign 4", align 7 (value (Number (pos 4)) (role.Alignment unit.Bytes) 8 9 ∷ []))
    ∷ (codes ".align 2, 0", faulty OperandCount 0 6)
    ∷ []

fill_lines : are_bodies fill_rows
unfolding directive_named directive_names
fill_lines = refl

-- sections

abbrev section_rows : List (List ℕ × Body)
section_rows =
    (codes ".text", Switch Text)
    ∷ (codes ".rodata", Switch Rodata)
    ∷ (codes ".Data", Switch Rwdata)
    ∷ (codes ".bss", Switch Bss)
    ∷ (codes ".text 1", faulty OperandCount 0 5)
    ∷ (codes ".section .textual", Switch Text)
    ∷ (codes ".section .text.init", Switch Init)
    ∷ (codes ".section .text.initial, \"ax\"", Switch Init)
    ∷ (codes ".section .text.ini", Switch Text)
    ∷ (codes ".section .sdata2,\"aw\"", Switch Sdata)
    ∷ (codes ".section .srodata", Switch Rodata)
    ∷ (codes ".section .rodata.str1.4, \"aMS\", @progbits, 1", Switch Rodata)
    ∷ (codes ".section .data.rel", Switch Rwdata)
    ∷ (codes ".section .sbss2", Switch Bss)
    ∷ (codes ".section .note", faulty BadOperand 9 14)
    ∷ (codes ".section .TEXT", faulty BadOperand 9 14)
    ∷ (codes ".section .text.hot-x", faulty BadOperand 9 20)
    ∷ (codes ".section ,.text", faulty BadOperand 8 8)
    ∷ (codes ".section", faulty OperandCount 0 8)
    ∷ (codes ".section .data, 1 +", Switch Rwdata)
    ∷ (codes ".section .data, 08", faulty BadNumber 16 18)
    ∷ (codes ".text.init", faulty UnknownName 0 10)
    ∷ (codes ".sdata", faulty UnknownName 0 6)
    ∷ []

section_lines : are_bodies section_rows
unfolding directive_named directive_names section_named section_names
section_lines = refl

-- definitions

abbrev definition_rows : List (List ℕ × Body)
definition_rows =
    (codes ".equ N, 5000", equ (codes "N") 5 6 (value (Number (pos 5000)) role.Definition 8 12))
    ∷ (codes ".set addi, b - a", equ (codes "addi") 5 9 (value (Binary Sub (Symbol (codes "b")) (Symbol (codes "a"))) role.Definition 11 16))
    ∷ (codes ".equ ., 1", faulty BadOperand 5 6)
    ∷ (codes ".equ 1, 1", faulty BadOperand 5 6)
    ∷ (codes ".equ x y, 1", faulty BadOperand 5 8)
    ∷ (codes ".equ N, 1 +", faulty BadOperand 8 11)
    ∷ (codes ".equ N, %lo(x)", faulty BadOperand 8 14)
    ∷ (codes ".equ N", faulty OperandCount 0 4)
    ∷ (codes ".equ N, 1, 2", faulty OperandCount 0 4)
    ∷ []

definition_lines : are_bodies definition_rows
unfolding directive_named directive_names
definition_lines = refl

-- ignored directives, whose rest is not read, and unknown names

abbrev ignored_rows : List (List ℕ × Body)
ignored_rows =
    (codes ".file \"a.c\"", Ignored)
    ∷ (codes ".cfi_startproc", Ignored)
    ∷ (codes ".Cfi_def_cfa_offset 16", Ignored)
    ∷ (codes ".loc 1 2 3", Ignored)
    ∷ (codes ".type get, @function", Ignored)
    ∷ (codes ".size get, .-get", Ignored)
    ∷ (codes ".ident 'a", Ignored)
    ∷ (codes ".file\"abc", Ignored)
    ∷ (codes "x: .globl 08, (", Ignored)
    ∷ (codes "'a .file", faulty BadString 0 8)
    ∷ (codes ".file : 'a", faulty BadString 8 10)
    ∷ (codes ".frob", faulty UnknownName 0 5)
    ∷ (codes ".frob 'a", faulty BadString 6 8)
    ∷ (codes ".cfi", faulty UnknownName 0 4)
    ∷ (codes ".comm b,4,4", faulty UnknownName 0 5)
    ∷ []

ignored_lines : are_bodies ignored_rows
unfolding directive_named directive_names
ignored_lines = refl

-- the first fault from the left, and a run that is too deep

abbrev order_rows : List (List ℕ × Body)
order_rows =
    (codes ".byte 1, +, 2, )", faulty BadOperand 9 10)
    ∷ (codes ".space +, (", faulty BadOperand 7 8)
    ∷ (codes ".section (((((((((((((((((((((((((((((((((((((((((((((((((((((((((((((((((", faulty TooDeep 9 74)
    ∷ (codes ".equ (((((((((((((((((((((((((((((((((((((((((((((((((((((((((((((((((), 1", faulty OperandCount 0 4)
    ∷ []

order : are_bodies order_rows
unfolding directive_named directive_names section_named section_names
order = refl
