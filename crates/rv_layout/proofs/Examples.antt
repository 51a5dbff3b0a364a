-- Worked texts: the shapes of their lines, and where the lines lie, computed on the definitions and on layouts.
use Rattle.std.proofs.Common.{◌≡◌, refl}
use Rattle.std.specs.Prelude.{ℕ, pos, true, false, List, [], ◌∷◌, map, codes}
use Rattle.rv_text.specs.declared.faults.FaultNumber.TheVariants.{NotConstant, UnknownName, BadOperand}
use Rattle.rv_ops.specs.Registers.{register_named, register_names}
use Rattle.rv_ops.specs.Table.{operation_named, operation_names, row_of, layout_of as operand_layout_of}
use Rattle.rv_stmt.specs.declared.section.Sect.TheVariants.{Init, Text, Rodata, Rwdata, Sdata, Bss}
use Rattle.rv_stmt.specs.Directives.{directive_named, directive_names}
use Rattle.rv_stmt.specs.Forms.{other_forms, slots_of}
use Rattle.rv_stmt.specs.Sections.{section_named, section_names}
use Rattle.rv_stmt.specs.Values.{modifier_named, modifier_names}
use Rattle.rv_layout.specs.declared.effect.Effect.TheVariants.{Plain, Switched}
use Rattle.rv_layout.specs.declared.measured.Measured.{Measured}
use Rattle.rv_layout.specs.declared.measured.Measured.TheVariants.{Bytes, Align, Switch, Nothing}
use Rattle.rv_layout.specs.Advances.{advance_of, no_advance}
use Rattle.rv_layout.specs.Effects.{layout_of, base_by_layout}
use Rattle.rv_layout.specs.Places.{is_base, section_of, section_end_of, line_size_of, section_base_of, address_of}
use Rattle.rv_layout.specs.Sections.{is_code}
use Rattle.rv_layout.proofs.ShapeExamples.{shapes_of, faulty}

abbrev all_sections : List ℕ
all_sections = 0 ∷ 1 ∷ 2 ∷ 3 ∷ 4 ∷ 5 ∷ []

-- bases
zero : is_base 0 ≡ true
zero = refl

page : is_base 4096 ≡ true
page = refl

last : is_base 0x80000000 ≡ true
last = refl

within_page : is_base 1 ≡ false
within_page = refl

beyond : is_base 0x80001000 ≡ false
beyond = refl

-- alignments, from the base 0

abbrev aligned_text : List (List ℕ)
aligned_text = codes ".byte 1" ∷ codes ".balign 8" ∷ codes ".byte 1" ∷ codes ".balign 2" ∷ []

abbrev aligned : List Measured
aligned = Bytes 1 ∷ Align 3 ∷ Bytes 1 ∷ Align 1 ∷ []

aligned_shapes : shapes_of [] aligned_text ≡ aligned
unfolding directive_named directive_names
aligned_shapes = refl

aligned_addresses : map (address_of 0 aligned) (1 ∷ 2 ∷ 3 ∷ 4 ∷ []) ≡ 0 ∷ 1 ∷ 8 ∷ 9 ∷ []
aligned_addresses = refl

aligned_sizes : map (line_size_of aligned) (1 ∷ 2 ∷ 3 ∷ 4 ∷ []) ≡ 1 ∷ 7 ∷ 1 ∷ 1 ∷ []
aligned_sizes = refl

aligned_end : section_end_of aligned 1 ≡ 10
aligned_end = refl

-- one advance: 1 more, up to a multiple of 8, and 2 more
aligned_layout : layout_of aligned ≡ Plain (advance_of 1 3 2)
aligned_layout = refl

-- an alignment that comes late: `.byte 1`, `.balign 4`, `nop`
late_addresses : map (address_of 0 (Bytes 1 ∷ Align 2 ∷ Bytes 4 ∷ [])) (1 ∷ 2 ∷ 3 ∷ []) ≡ 0 ∷ 1 ∷ 4 ∷ []
late_addresses = refl

-- `c.nop`, `L:`, `auipc a0, %pcrel_hi(m)`, `addi a0, a0, %pcrel_lo(L)`, `m: nop`, and then with `.align 2` as line 3

abbrev pair : List Measured
pair = Bytes 2 ∷ Nothing ∷ Bytes 4 ∷ Bytes 4 ∷ Bytes 4 ∷ []

abbrev padded_pair : List Measured
padded_pair = Bytes 2 ∷ Nothing ∷ Align 2 ∷ Bytes 4 ∷ Bytes 4 ∷ Bytes 4 ∷ []

pair_addresses : map (address_of 0 pair) (1 ∷ 2 ∷ 3 ∷ 4 ∷ 5 ∷ []) ≡ 0 ∷ 2 ∷ 2 ∷ 6 ∷ 10 ∷ []
pair_addresses = refl

padded_pair_addresses : map (address_of 0 padded_pair) (1 ∷ 2 ∷ 3 ∷ 4 ∷ 5 ∷ 6 ∷ []) ≡ 0 ∷ 2 ∷ 2 ∷ 4 ∷ 8 ∷ 12 ∷ []
padded_pair_addresses = refl

padding_of_pair : line_size_of padded_pair 3 ≡ 2
padding_of_pair = refl

-- a constant that is loaded; `D` is a difference of labels, and no constant

abbrev loading_text : List (List ℕ)
loading_text = codes ".equ N, 5000" ∷ codes "start: li a0, N" ∷ codes "end: nop" ∷ codes ".equ D, end - start" ∷ codes "beq a0, a1, . + D" ∷ []

abbrev loading : List Measured
loading = Nothing ∷ Bytes 8 ∷ Bytes 4 ∷ Nothing ∷ Bytes 4 ∷ []

loading_shapes : shapes_of ((codes "N", pos 5000) ∷ []) loading_text ≡ loading
unfolding operation_named operation_names register_named register_names other_forms slots_of row_of operand_layout_of directive_named directive_names
loading_shapes = refl

loading_addresses : map (address_of 0 loading) (1 ∷ 2 ∷ 3 ∷ 4 ∷ 5 ∷ []) ≡ 0 ∷ 0 ∷ 8 ∷ 12 ∷ 12 ∷ []
loading_addresses = refl

-- with `.equ N, 4` as line 1, `N` is 4
abbrev loading_less : List Measured
loading_less = Nothing ∷ Nothing ∷ Bytes 4 ∷ Bytes 4 ∷ Nothing ∷ Bytes 4 ∷ []

loading_less_shapes : shapes_of ((codes "N", pos 4) ∷ []) (codes ".equ N, 4" ∷ loading_text) ≡ loading_less
unfolding operation_named operation_names register_named register_names other_forms slots_of row_of operand_layout_of directive_named directive_names
loading_less_shapes = refl

loading_less_addresses : map (address_of 0 loading_less) (1 ∷ 2 ∷ 3 ∷ 4 ∷ 5 ∷ 6 ∷ []) ≡ 0 ∷ 0 ∷ 0 ∷ 4 ∷ 8 ∷ 8 ∷ []
loading_less_addresses = refl

-- data

abbrev data_text : List (List ℕ)
data_text = codes ".data" ∷ codes ".byte 1, -1, 'A'" ∷ codes ".half 0x1234" ∷ codes ".word s" ∷ codes "s: .asciz \"hi\\n\"" ∷ []

abbrev data_lines : List Measured
data_lines = Switch Rwdata ∷ Bytes 3 ∷ Bytes 2 ∷ Bytes 4 ∷ Bytes 4 ∷ []

data_shapes : shapes_of [] data_text ≡ data_lines
unfolding directive_named directive_names
data_shapes = refl

-- the switch acts from the next line on
data_sections : map (section_of data_lines) (1 ∷ 2 ∷ 5 ∷ []) ≡ Text ∷ Rwdata ∷ Rwdata ∷ []
data_sections = refl

data_bases : map (section_base_of 0 data_lines) all_sections ≡ 0 ∷ 0 ∷ 0 ∷ 0 ∷ 0x1000 ∷ 0x1000 ∷ []
data_bases = refl

data_ends : map (section_end_of data_lines) all_sections ≡ 0 ∷ 0 ∷ 0 ∷ 13 ∷ 0 ∷ 0 ∷ []
data_ends = refl

data_addresses : map (address_of 0 data_lines) (2 ∷ 3 ∷ 4 ∷ 5 ∷ []) ≡ 0 ∷ 3 ∷ 5 ∷ 9 ∷ []
data_addresses = refl

data_layout : layout_of data_lines ≡ Switched no_advance Rwdata (no_advance ∷ no_advance ∷ no_advance ∷ advance_of 0 0 13 ∷ no_advance ∷ no_advance ∷ [])
data_layout = refl

-- a size that follows from labels, and so is no constant

abbrev faulty_lines : List Measured
faulty_lines = faulty NotConstant 10 15 ∷ Nothing ∷ []

faulty_shapes : shapes_of [] (codes "s: .space e - s" ∷ codes "e:" ∷ []) ≡ faulty_lines
unfolding directive_named directive_names
faulty_shapes = refl

faulty_addresses : map (address_of 0 faulty_lines) (1 ∷ 2 ∷ []) ≡ 0 ∷ 0 ∷ []
faulty_addresses = refl

-- what a compiler writes, and two lines for a linker

abbrev compiled_text : List (List ℕ)
compiled_text =
    codes ".file \"a.c\""
    ∷ codes ".option nopic"
    ∷ codes ".text"
    ∷ codes ".align 2"
    ∷ codes ".globl get"
    ∷ codes ".type get, @function"
    ∷ codes "get:"
    ∷ codes "lui a5,%hi(x)"
    ∷ codes "lw a0,%lo(x)(a5)"
    ∷ codes "ret"
    ∷ codes ".size get, .-get"
    ∷ codes ".section .sdata,\"aw\""
    ∷ codes ".align 2"
    ∷ codes "x:"
    ∷ codes ".word 7"
    ∷ codes ".ident \"GCC\""
    ∷ codes ".comm b,4,4"
    ∷ codes ".section .note.GNU-stack,\"\",@progbits"
    ∷ []

abbrev compiled : List Measured
compiled =
    Nothing
    ∷ Nothing
    ∷ Switch Text
    ∷ Align 2
    ∷ Nothing
    ∷ Nothing
    ∷ Nothing
    ∷ Bytes 4
    ∷ Bytes 4
    ∷ Bytes 4
    ∷ Nothing
    ∷ Switch Sdata
    ∷ Align 2
    ∷ Nothing
    ∷ Bytes 4
    ∷ Nothing
    ∷ faulty UnknownName 0 5
    ∷ faulty BadOperand 9 24
    ∷ []

compiled_shapes : shapes_of [] compiled_text ≡ compiled
unfolding operation_named operation_names register_named register_names other_forms slots_of row_of operand_layout_of directive_named directive_names section_named section_names modifier_named modifier_names
compiled_shapes = refl

compiled_ends : map (section_end_of compiled) all_sections ≡ 0 ∷ 12 ∷ 0 ∷ 0 ∷ 4 ∷ 0 ∷ []
compiled_ends = refl

compiled_addresses : map (address_of 0 compiled) (7 ∷ 8 ∷ 9 ∷ 10 ∷ 14 ∷ 15 ∷ []) ≡ 0 ∷ 0 ∷ 4 ∷ 8 ∷ 0x1000 ∷ 0x1000 ∷ []
compiled_addresses = refl

-- from the highest base
compiled_bases : map (section_base_of 0x80000000 compiled) all_sections ≡ 0x80000000 ∷ 0x80000000 ∷ 0x80001000 ∷ 0x80001000 ∷ 0x80001000 ∷ 0x80002000 ∷ []
compiled_bases = refl

compiled_layout_bases : map (base_by_layout 0x80000000 (layout_of compiled)) all_sections ≡ 0x80000000 ∷ 0x80000000 ∷ 0x80001000 ∷ 0x80001000 ∷ 0x80001000 ∷ 0x80002000 ∷ []
compiled_layout_bases = refl

-- start-up code and small data: `nop`, `.section .text.init`, `c.nop`, `.align 2`, `.section .sdata`, `.word 7`, `.text`, `nop`

abbrev started : List Measured
started = Bytes 4 ∷ Switch Init ∷ Bytes 2 ∷ Align 2 ∷ Switch Sdata ∷ Bytes 4 ∷ Switch Text ∷ Bytes 4 ∷ []

started_bases : map (section_base_of 0 started) all_sections ≡ 0 ∷ 0x1000 ∷ 0x2000 ∷ 0x2000 ∷ 0x2000 ∷ 0x3000 ∷ []
started_bases = refl

started_ends : map (section_end_of started) all_sections ≡ 4 ∷ 8 ∷ 0 ∷ 0 ∷ 4 ∷ 0 ∷ []
started_ends = refl

started_addresses : map (address_of 0 started) (1 ∷ 3 ∷ 4 ∷ 6 ∷ 8 ∷ []) ≡ 0x1000 ∷ 0 ∷ 2 ∷ 0x2000 ∷ 0x1004 ∷ []
started_addresses = refl

started_sizes : map (line_size_of started) (3 ∷ 4 ∷ []) ≡ 2 ∷ 2 ∷ []
started_sizes = refl

sections_of_code : map is_code (Init ∷ Text ∷ Rodata ∷ Rwdata ∷ Sdata ∷ Bss ∷ []) ≡ true ∷ true ∷ false ∷ false ∷ false ∷ false ∷ []
sections_of_code = refl
