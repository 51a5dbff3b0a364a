-- The shapes of worked lines, computed on the definitions.
use Rattle.std.proofs.Common.{◌≡◌, refl}
use Rattle.std.specs.Prelude.{ℕ, ℤ, pos, List, [], ◌∷◌, Option, Some, None, map, codes, bytes_eq, if◌then◌else◌}
use Rattle.rv_text.specs.declared.faults.FaultNumber.{FaultNumber}
use Rattle.rv_text.specs.declared.faults.FaultNumber.TheVariants.{NotConstant, Range, Arithmetic, BadOperand, OperandCount, UnknownName}
use Rattle.rv_ops.specs.Registers.{register_named, register_names}
use Rattle.rv_ops.specs.Table.{operation_named, operation_names, row_of, layout_of}
use Rattle.rv_stmt.specs.declared.section.Sect.TheVariants.{Init, Text, Rodata, Sdata, Bss}
use Rattle.rv_stmt.specs.Directives.{directive_named, directive_names}
use Rattle.rv_stmt.specs.Forms.{other_forms, slots_of}
use Rattle.rv_stmt.specs.Sections.{section_named, section_names}
use Rattle.rv_stmt.specs.Statement.{statement_of}
use Rattle.rv_layout.specs.declared.measured.Measured.{Measured}
use Rattle.rv_layout.specs.declared.measured.Measured.TheVariants.{Bytes, Align, Switch, Nothing, Faulty}
use Rattle.rv_layout.specs.Shapes.{shape_of}

-- the names that are constants, with their values
abbrev pub Constants : Type 0
Constants = List (List ℕ × ℤ)

abbrev pub constant_among : Constants → List ℕ → Option ℤ
constant_among [] name = None
constant_among (c ∷ cs) name = if bytes_eq c.0 name then Some c.1 else constant_among cs name

-- the shapes of lines, each of which sees these constants
abbrev pub shapes_of : Constants → List (List ℕ) → List Measured
shapes_of cs lines = map (λ line. shape_of (constant_among cs) (statement_of line).body) lines

abbrev pub faulty : FaultNumber → (from to : ℕ) → Measured
faulty number from to = Faulty (record { number = number; span = record { from = from; to = to } })

-- each line has its shape
abbrev are_shapes : Constants → List (List ℕ × Measured) → Type 0
are_shapes cs rows = shapes_of cs (map (λ r. r.0) rows) ≡ map (λ r. r.1) rows

-- instructions

abbrev instruction_rows : List (List ℕ × Measured)
instruction_rows =
    (codes "", Nothing)
    ∷ (codes "x: 1: # text", Nothing)
    ∷ (codes "c.nop", Bytes 2)
    ∷ (codes "fence", Bytes 4)
    ∷ (codes "x: addi a0, a0, N", Bytes 4)
    ∷ (codes "call f", Bytes 8)
    ∷ (codes "lw a0, x", Bytes 8)
    ∷ (codes "fence 1", faulty OperandCount 0 5)
    ∷ []

instruction_shapes : are_shapes [] instruction_rows
unfolding operation_named operation_names register_named register_names other_forms slots_of row_of layout_of
instruction_shapes = refl

-- constants that are loaded: `N` is 5000, and other names are none

abbrev load_rows : List (List ℕ × Measured)
load_rows =
    (codes "li a0, N", Bytes 8)
    ∷ (codes "li a0, N - 2953", Bytes 4)
    ∷ (codes "li a0, N - 2952", Bytes 8)
    ∷ (codes "li a0, -2048", Bytes 4)
    ∷ (codes "li a0, -2049", Bytes 8)
    ∷ (codes "li a0, 0x12345000", Bytes 4)
    ∷ (codes "li a0, 0xFFFFFFFF", Bytes 4)
    ∷ (codes "li a0, 4294967296", faulty Range 7 17)
    ∷ (codes "li a0, -2147483648", Bytes 4)
    ∷ (codes "li a0, -2147483649", faulty Range 7 18)
    ∷ (codes "li a0, M", faulty NotConstant 7 8)
    ∷ (codes "li a0, .", faulty NotConstant 7 8)
    ∷ (codes "li a0, 1b", faulty NotConstant 7 9)
    ∷ []

load_shapes : are_shapes ((codes "N", pos 5000) ∷ []) load_rows
unfolding operation_named operation_names register_named register_names other_forms slots_of row_of layout_of
load_shapes = refl

-- data and fills

abbrev data_rows : List (List ℕ × Measured)
data_rows =
    (codes ".byte 1, -1, 'A'", Bytes 3)
    ∷ (codes ".half 1, 2", Bytes 4)
    ∷ (codes ".word x", Bytes 4)
    ∷ (codes ".asciz \"hi\\n\"", Bytes 4)
    ∷ (codes ".ascii \"\"", Bytes 0)
    ∷ (codes ".space 65536", Bytes 65536)
    ∷ (codes ".space 65537", faulty Range 7 12)
    ∷ (codes ".space -1", faulty Range 7 9)
    ∷ (codes ".space 4, 300", Bytes 4)
    ∷ (codes ".space 4, x", Bytes 4)
    ∷ (codes ".zero N * 2", Bytes 10)
    ∷ (codes ".space 1/0 + x", faulty Arithmetic 7 14)
    ∷ (codes ".space x + 1/0", faulty NotConstant 7 14)
    ∷ (codes ".space", faulty OperandCount 0 6)
    ∷ []

data_shapes : are_shapes ((codes "N", pos 5) ∷ []) data_rows
unfolding directive_named directive_names
data_shapes = refl

-- alignments

abbrev alignment_rows : List (List ℕ × Measured)
alignment_rows =
    (codes ".align 0", Align 0)
    ∷ (codes ".align 12", Align 12)
    ∷ (codes ".align 13", faulty Range 7 9)
    ∷ (codes ".p2align -1", faulty Range 9 11)
    ∷ (codes ".balign 1", Align 0)
    ∷ (codes ".balign 3", faulty Range 8 9)
    ∷ (codes ".balign 4", Align 2)
    ∷ (codes ".balign 4096", Align 12)
    ∷ (codes ".balign 8192", faulty Range 8 12)
    ∷ (codes ".balign 0", faulty Range 8 9)
    ∷ (codes ".balign -4", faulty Range 8 10)
    ∷ (codes ".balign .", faulty NotConstant 8 9)
    ∷ []

alignment_shapes : are_shapes [] alignment_rows
unfolding directive_named directive_names
alignment_shapes = refl

-- sections, and what has no bytes

abbrev section_rows : List (List ℕ × Measured)
section_rows =
    (codes ".text", Switch Text)
    ∷ (codes ".bss", Switch Bss)
    ∷ (codes ".section .text.init", Switch Init)
    ∷ (codes ".section .sdata2", Switch Sdata)
    ∷ (codes ".section .srodata", Switch Rodata)
    ∷ (codes ".section .note", faulty BadOperand 9 14)
    ∷ (codes ".equ N, 1/0", Nothing)
    ∷ (codes ".cfi_startproc", Nothing)
    ∷ (codes ".loc 1 2 3", Nothing)
    ∷ (codes ".comm b,4,4", faulty UnknownName 0 5)
    ∷ []

section_shapes : are_shapes [] section_rows
unfolding directive_named directive_names section_named section_names
section_shapes = refl
