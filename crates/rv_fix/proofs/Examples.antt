-- Worked lines, computed on the definitions.
use Rattle.std.proofs.Common.{◌≡◌, refl}
use Rattle.std.specs.Prelude.{ℕ, Bool, true, false, List, [], ◌∷◌, Some, map, codes}
use Rattle.rv_text.specs.declared.faults.FaultNumber.{FaultNumber}
use Rattle.rv_text.specs.declared.faults.FaultNumber.TheVariants.{UnknownName, RegisterRange, NotConstant, Arithmetic, Range, Multiple}
use Rattle.rv_ops.specs.Csrs.{csr_named, csr_names}
use Rattle.rv_ops.specs.Limits.{limit_fault}
use Rattle.rv_ops.specs.Registers.{register_named, register_names}
use Rattle.rv_ops.specs.Table.{operation_named, operation_names, row_of, layout_of}
use Rattle.rv_code.specs.Encoding.{word_of, encoding_of}
use Rattle.rv_stmt.specs.Directives.{directive_named, directive_names}
use Rattle.rv_stmt.specs.Forms.{other_forms, slots_of}
use Rattle.rv_stmt.specs.Registers.{set_named, set_names}
use Rattle.rv_stmt.specs.Sections.{section_named, section_names}
use Rattle.rv_stmt.specs.Statement.{statement_of}
use Rattle.rv_stmt.specs.Values.{modifier_named, modifier_names}
use Rattle.rv_fix.specs.declared.coded.Coded.{Coded}
use Rattle.rv_fix.specs.Alone.{code_at, uses_names}
use Rattle.rv_fix.specs.Code.{code}
use Rattle.rv_fix.specs.Padding.{padding}

abbrev wrong : List ℕ → FaultNumber → ℕ → ℕ → Coded
wrong bs number from to =
    record { payload = bs; fault = Some (record { number = number; span = record { from = from; to = to } }) }

-- a line and an address, with the code
abbrev Row : Type 0
Row = (List ℕ × ℕ) × Coded

abbrev are_codes : List Row → Type 0
are_codes rows = map (λ r. code_at r.0.1 r.0.0) rows ≡ map (λ r. r.1) rows

abbrev all_use : Bool → List (List ℕ) → Type 0
all_use answer lines = map (λ line. uses_names (statement_of line).body) lines ≡ map (λ line. answer) lines

-- modifiers and addresses

abbrev address_rows : List Row
address_rows =
    ((codes "lui a0, %hi(0x12345FFF)", 0), code (0x37 ∷ 0x65 ∷ 0x34 ∷ 0x12 ∷ []))
    ∷ ((codes "addi a0, a0, %lo(0x12345FFF)", 0), code (0x13 ∷ 0x05 ∷ 0xf5 ∷ 0xff ∷ []))
    ∷ ((codes "auipc a0, %pcrel_hi(0x1800)", 0x1000), code (0x17 ∷ 0x15 ∷ 0x00 ∷ 0x00 ∷ []))
    ∷ ((codes "jalr a0, a1, %lo(0x1fff)", 0), code (0x67 ∷ 0x85 ∷ 0xf5 ∷ 0xff ∷ []))
    ∷ ((codes "beq a0, a1, 0xfffffffc", 0), code (0xe3 ∷ 0x0e ∷ 0xb5 ∷ 0xfe ∷ []))
    ∷ ((codes "j . + 0x100000000", 0x8), code (0x6f ∷ 0x00 ∷ 0x00 ∷ 0x00 ∷ []))
    ∷ ((codes "c.j .+1", 0), wrong (0x00 ∷ 0x00 ∷ []) Multiple 4 7)
    ∷ []

address_codes : are_codes address_rows
unfolding word_of encoding_of row_of layout_of limit_fault operation_named operation_names register_named register_names csr_named csr_names other_forms slots_of set_named set_names modifier_named modifier_names directive_named directive_names section_named section_names
address_codes = refl

-- each end of a branch's range

abbrev branch_rows : List Row
branch_rows =
    ((codes "beq a0, a1, .+4094", 0), code (0xe3 ∷ 0x0f ∷ 0xb5 ∷ 0x7e ∷ []))
    ∷ ((codes "beq a0, a1, .-4096", 0), code (0x63 ∷ 0x00 ∷ 0xb5 ∷ 0x80 ∷ []))
    ∷ ((codes "beq a0, a1, .+4096", 0), wrong (0x00 ∷ 0x00 ∷ 0x00 ∷ 0x00 ∷ []) Range 12 18)
    ∷ ((codes "beq a0, a1, .+4095", 0), wrong (0x00 ∷ 0x00 ∷ 0x00 ∷ 0x00 ∷ []) Range 12 18)
    ∷ ((codes "nop", 0x4), code (0x13 ∷ 0x00 ∷ 0x00 ∷ 0x00 ∷ []))
    ∷ ((codes "x: nop", 0), code (0x13 ∷ 0x00 ∷ 0x00 ∷ 0x00 ∷ []))
    ∷ []

branch_codes : are_codes branch_rows
unfolding word_of encoding_of row_of layout_of limit_fault operation_named operation_names register_named register_names csr_named csr_names other_forms slots_of set_named set_names modifier_named modifier_names directive_named directive_names section_named section_names
branch_codes = refl

-- constant loads

abbrev constant_rows : List Row
constant_rows =
    ((codes "li a0, 0x12345678", 0), code (0x37 ∷ 0x55 ∷ 0x34 ∷ 0x12 ∷ 0x13 ∷ 0x05 ∷ 0x85 ∷ 0x67 ∷ []))
    ∷ ((codes "li a0, 0x12345000", 0), code (0x37 ∷ 0x55 ∷ 0x34 ∷ 0x12 ∷ []))
    ∷ ((codes "li a0, 2047", 0), code (0x13 ∷ 0x05 ∷ 0xf0 ∷ 0x7f ∷ []))
    ∷ ((codes "li a0, 2048", 0), code (0x37 ∷ 0x15 ∷ 0x00 ∷ 0x00 ∷ 0x13 ∷ 0x05 ∷ 0x05 ∷ 0x80 ∷ []))
    ∷ ((codes "li a0, -1", 0), code (0x13 ∷ 0x05 ∷ 0xf0 ∷ 0xff ∷ []))
    ∷ ((codes "li a0, 0xFFFFFFFF", 0), code (0x13 ∷ 0x05 ∷ 0xf0 ∷ 0xff ∷ []))
    ∷ ((codes "li a0, 4294967296", 0), wrong [] Range 7 17)
    ∷ ((codes "li a0, .", 0), wrong [] NotConstant 7 8)
    ∷ ((codes "li a0, 1/0", 0), wrong [] Arithmetic 7 10)
    ∷ []

constant_codes : are_codes constant_rows
unfolding word_of encoding_of row_of layout_of limit_fault operation_named operation_names register_named register_names csr_named csr_names other_forms slots_of set_named set_names modifier_named modifier_names directive_named directive_names section_named section_names
constant_codes = refl

-- address pairs

abbrev pair_rows : List Row
pair_rows =
    ((codes "call 2048", 0), code (0x97 ∷ 0x10 ∷ 0x00 ∷ 0x00 ∷ 0xe7 ∷ 0x80 ∷ 0x00 ∷ 0x80 ∷ []))
    ∷ ((codes "call 0", 0x80000000), code (0x97 ∷ 0x00 ∷ 0x00 ∷ 0x80 ∷ 0xe7 ∷ 0x80 ∷ 0x00 ∷ 0x00 ∷ []))
    ∷ ((codes "tail .+4", 0x1000), code (0x17 ∷ 0x03 ∷ 0x00 ∷ 0x00 ∷ 0x67 ∷ 0x00 ∷ 0x43 ∷ 0x00 ∷ []))
    ∷ ((codes "la a0, .+0x12345FFF", 0x1000), code (0x17 ∷ 0x65 ∷ 0x34 ∷ 0x12 ∷ 0x13 ∷ 0x05 ∷ 0xf5 ∷ 0xff ∷ []))
    ∷ ((codes "lw a0, 0x1000", 0), code (0x17 ∷ 0x15 ∷ 0x00 ∷ 0x00 ∷ 0x03 ∷ 0x25 ∷ 0x05 ∷ 0x00 ∷ []))
    ∷ ((codes "sw a0, 0x1004, t0", 0), code (0x97 ∷ 0x12 ∷ 0x00 ∷ 0x00 ∷ 0x23 ∷ 0xa2 ∷ 0xa2 ∷ 0x00 ∷ []))
    ∷ []

pair_codes : are_codes pair_rows
unfolding word_of encoding_of row_of layout_of limit_fault operation_named operation_names register_named register_names csr_named csr_names other_forms slots_of set_named set_names modifier_named modifier_names directive_named directive_names section_named section_names
pair_codes = refl

-- limits, and which of two faults counts

abbrev limit_rows : List Row
limit_rows =
    ((codes "c.mv a0, a1", 0), code (0x2e ∷ 0x85 ∷ []))
    ∷ ((codes "c.addi a0, 1", 0), code (0x05 ∷ 0x05 ∷ []))
    ∷ ((codes "c.addi a0, 0", 0), wrong (0x00 ∷ 0x00 ∷ []) Range 11 12)
    ∷ ((codes "c.lui sp, 1", 0), wrong [] RegisterRange 6 8)
    ∷ ((codes "c.addi4spn a0, sp, 2", 0), wrong (0x00 ∷ 0x00 ∷ []) Range 19 20)
    ∷ ((codes "c.addi4spn a0, sp, 6", 0), wrong (0x00 ∷ 0x00 ∷ []) Multiple 19 20)
    ∷ ((codes "csrr a0, mhartid", 0), code (0x73 ∷ 0x25 ∷ 0x40 ∷ 0xf1 ∷ []))
    ∷ ((codes "csrw 0x305, t0", 0), code (0x73 ∷ 0x90 ∷ 0x52 ∷ 0x30 ∷ []))
    ∷ ((codes "csrr a0, 4096", 0), wrong (0x00 ∷ 0x00 ∷ 0x00 ∷ 0x00 ∷ []) Range 9 13)
    ∷ ((codes "csrrwi a0, 4096, 32", 0), wrong (0x00 ∷ 0x00 ∷ 0x00 ∷ 0x00 ∷ []) Range 11 15)
    ∷ ((codes "csrrwi a0, 5, 32", 0), wrong (0x00 ∷ 0x00 ∷ 0x00 ∷ 0x00 ∷ []) Range 14 16)
    ∷ ((codes "csrrwi a0, mepc, 31", 0), code (0x73 ∷ 0xd5 ∷ 0x1f ∷ 0x34 ∷ []))
    ∷ ((codes "lw a0, 5000(a1)", 0), wrong (0x00 ∷ 0x00 ∷ 0x00 ∷ 0x00 ∷ []) Range 7 15)
    ∷ []

limit_codes : are_codes limit_rows
unfolding word_of encoding_of row_of layout_of limit_fault operation_named operation_names register_named register_names csr_named csr_names other_forms slots_of set_named set_names modifier_named modifier_names directive_named directive_names section_named section_names
limit_codes = refl

-- data and equal bytes

abbrev data_rows : List Row
data_rows =
    ((codes ".byte 1, -1, 'A'", 0), code (0x01 ∷ 0xff ∷ 0x41 ∷ []))
    ∷ ((codes ".half 0x1234", 0), code (0x34 ∷ 0x12 ∷ []))
    ∷ ((codes ".word 9", 0), code (0x09 ∷ 0x00 ∷ 0x00 ∷ 0x00 ∷ []))
    ∷ ((codes ".asciz \"hi\\n\"", 0), code (0x68 ∷ 0x69 ∷ 0x0a ∷ 0x00 ∷ []))
    ∷ ((codes ".half -0x8000, 0xffff", 0), code (0x00 ∷ 0x80 ∷ 0xff ∷ 0xff ∷ []))
    ∷ ((codes ".word .", 0x1234), code (0x34 ∷ 0x12 ∷ 0x00 ∷ 0x00 ∷ []))
    ∷ ((codes ".byte 1, 256, 1/0", 0), wrong (0x00 ∷ 0x00 ∷ 0x00 ∷ []) Range 9 12)
    ∷ ((codes ".half 1/0, 0x10000", 0), wrong (0x00 ∷ 0x00 ∷ 0x00 ∷ 0x00 ∷ []) Arithmetic 6 9)
    ∷ ((codes ".space 3, -2", 0), code (0xfe ∷ 0xfe ∷ 0xfe ∷ []))
    ∷ ((codes ".zero 2", 0), code (0x00 ∷ 0x00 ∷ []))
    ∷ ((codes ".space 4, 256", 0), wrong (0x00 ∷ 0x00 ∷ 0x00 ∷ 0x00 ∷ []) Range 10 13)
    ∷ ((codes ".space 65537, 256", 0), wrong [] Range 7 12)
    ∷ ((codes ".space .", 0), wrong [] NotConstant 7 8)
    ∷ []

data_codes : are_codes data_rows
unfolding word_of encoding_of row_of layout_of limit_fault operation_named operation_names register_named register_names csr_named csr_names other_forms slots_of set_named set_names modifier_named modifier_names directive_named directive_names section_named section_names
data_codes = refl

-- alignments, and lines without bytes

abbrev place_rows : List Row
place_rows =
    ((codes ".align 2", 0x2), code (0x01 ∷ 0x00 ∷ []))
    ∷ ((codes ".balign 8", 0x1), code (0x00 ∷ 0x01 ∷ 0x00 ∷ 0x13 ∷ 0x00 ∷ 0x00 ∷ 0x00 ∷ []))
    ∷ ((codes ".p2align 3", 0x8), code [])
    ∷ ((codes ".align 1/0", 0), wrong [] Arithmetic 7 10)
    ∷ ((codes ".align 13", 0), wrong [] Range 7 9)
    ∷ ((codes ".balign 3", 0), wrong [] Range 8 9)
    ∷ ((codes ".balign 0", 0), wrong [] Range 8 9)
    ∷ ((codes ".equ N, 1", 0), code [])
    ∷ ((codes ".equ N, 1/0", 0), wrong [] Arithmetic 8 11)
    ∷ ((codes ".data", 0), code [])
    ∷ ((codes ".globl x", 0), code [])
    ∷ ((codes "x:", 0), code [])
    ∷ ((codes ".frob", 0), wrong [] UnknownName 0 5)
    ∷ []

place_codes : are_codes place_rows
unfolding word_of encoding_of row_of layout_of limit_fault operation_named operation_names register_named register_names csr_named csr_names other_forms slots_of set_named set_names modifier_named modifier_names directive_named directive_names section_named section_names
place_codes = refl

-- uses of other lines

abbrev use_lines : List (List ℕ)
use_lines =
    codes "call f"
    ∷ codes "j 1b"
    ∷ codes "addi a0, a0, %pcrel_lo(L)"
    ∷ codes "addi a0, a0, %pcrel_lo(.)"
    ∷ codes "li a0, N"
    ∷ codes "addi a0, a0, %lo((. + x) * 2)"
    ∷ codes ".equ N, M"
    ∷ codes ".space N"
    ∷ codes ".align N"
    ∷ codes ".space 1/0 + x"
    ∷ []

use_names : all_use true use_lines
unfolding word_of encoding_of row_of layout_of limit_fault operation_named operation_names register_named register_names csr_named csr_names other_forms slots_of set_named set_names modifier_named modifier_names directive_named directive_names section_named section_names
use_names = refl

abbrev no_use_lines : List (List ℕ)
no_use_lines =
    codes "x: nop"
    ∷ codes "j ."
    ∷ codes "li a0, 1/0"
    ∷ codes "lw a0, (a1)"
    ∷ codes ".equ N, 1"
    ∷ codes ".globl x"
    ∷ codes "call f, g"
    ∷ []

no_use_names : all_use false no_use_lines
unfolding word_of encoding_of row_of layout_of limit_fault operation_named operation_names register_named register_names csr_named csr_names other_forms slots_of set_named set_names modifier_named modifier_names directive_named directive_names section_named section_names
no_use_names = refl

-- padding

padding_1 : padding true 1 ≡ 0 ∷ []
padding_1 = refl

padding_2 : padding true 2 ≡ 0x01 ∷ 0x00 ∷ []
padding_2 = refl

padding_7 : padding true 7 ≡ 0 ∷ 0x01 ∷ 0x00 ∷ 0x13 ∷ 0x00 ∷ 0x00 ∷ 0x00 ∷ []
padding_7 = refl

padding_elsewhere : padding false 3 ≡ 0 ∷ 0 ∷ 0 ∷ []
padding_elsewhere = refl
