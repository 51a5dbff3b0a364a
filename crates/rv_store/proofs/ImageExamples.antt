-- Worked images, computed on the definitions.
use Rattle.std.specs.Prelude.{◌≡◌, ℕ, List, [], ◌∷◌, codes, refl}
use Rattle.std.specs.Fmt.{digits}
use Rattle.rv_text.specs.Rows.{hex}
use Rattle.rv_ops.specs.Csrs.{csr_named, csr_names}
use Rattle.rv_ops.specs.Limits.{limit_fault}
use Rattle.rv_ops.specs.Registers.{register_named, register_names}
use Rattle.rv_ops.specs.Table.{operation_named, operation_names, row_of, layout_of}
use Rattle.rv_code.specs.Encoding.{word_of, encoding_of}
use Rattle.rv_stmt.specs.Directives.{directive_named, directive_names}
use Rattle.rv_stmt.specs.Forms.{other_forms, slots_of}
use Rattle.rv_stmt.specs.Registers.{set_named, set_names}
use Rattle.rv_stmt.specs.Sections.{section_named, section_names}
use Rattle.rv_stmt.specs.Values.{modifier_named, modifier_names}
use Rattle.rv_list.specs.Image.{byte_row, byte_rows, section_bytes, section_row, section_names as image_names, section_name, section_text, image_text}
use Rattle.rv_store.specs.Shown.{shown_of}
use Rattle.rv_program.specs.Text.{Delete, lines_after}

-- the image of these lines from base 0
abbrev image_from_0 : List (List ℕ) → List ℕ
image_from_0 lines = image_text (shown_of (record { base = 0; lines = lines }))

empty_image : image_from_0 [] ≡ codes ".text.init 0x00000000 0\n.text 0x00000000 0\n.rodata 0x00000000 0\n.data 0x00000000 0\n.sdata 0x00000000 0\n.bss 0x00000000 0\n"
unfolding image_text section_bytes image_names section_name section_text section_row byte_rows byte_row hex digits
empty_image = refl

instruction_image : image_from_0 (codes "addi a0, a0, 1" ∷ []) ≡ codes ".text.init 0x00000000 0\n.text 0x00000000 4\n00000000: 13 05 15 00\n.rodata 0x00001000 0\n.data 0x00001000 0\n.sdata 0x00001000 0\n.bss 0x00001000 0\n"
unfolding image_text section_bytes image_names section_name section_text section_row byte_rows byte_row hex digits word_of encoding_of row_of layout_of limit_fault operation_named operation_names register_named register_names csr_named csr_names other_forms slots_of set_named set_names modifier_named modifier_names directive_named directive_names section_named section_names
instruction_image = refl

data_image : image_from_0 (codes ".data" ∷ codes ".byte 1, -1, 'A'" ∷ codes ".half 0x1234" ∷ codes ".word s" ∷ codes "s: .asciz \"hi\\n\"" ∷ []) ≡ codes ".text.init 0x00000000 0\n.text 0x00000000 0\n.rodata 0x00000000 0\n.data 0x00000000 13\n00000000: 01 ff 41 34 12 09 00 00 00 68 69 0a 00\n.sdata 0x00001000 0\n.bss 0x00001000 0\n"
unfolding image_text section_bytes image_names section_name section_text section_row byte_rows byte_row hex digits word_of encoding_of row_of layout_of limit_fault operation_named operation_names register_named register_names csr_named csr_names other_forms slots_of set_named set_names modifier_named modifier_names directive_named directive_names section_named section_names
data_image = refl

bss_image : image_from_0 (codes ".section .bss" ∷ codes "addi a0, a0, 1" ∷ []) ≡ codes ".text.init 0x00000000 0\n.text 0x00000000 0\n.rodata 0x00000000 0\n.data 0x00000000 0\n.sdata 0x00000000 0\n.bss 0x00000000 4\n"
unfolding image_text section_bytes image_names section_name section_text section_row byte_rows byte_row hex digits word_of encoding_of row_of layout_of limit_fault operation_named operation_names register_named register_names csr_named csr_names other_forms slots_of set_named set_names modifier_named modifier_names directive_named directive_names section_named section_names
bss_image = refl

-- start-up code and small data
abbrev pub started_lines : List (List ℕ)
started_lines =
    codes "nop"
    ∷ codes ".section .text.init"
    ∷ codes "c.nop"
    ∷ codes ".align 2"
    ∷ codes ".section .sdata"
    ∷ codes ".word 7"
    ∷ codes ".text"
    ∷ codes "nop"
    ∷ []

started_image : image_from_0 started_lines ≡ codes ".text.init 0x00000000 4\n00000000: 01 00 01 00\n.text 0x00001000 8\n00001000: 13 00 00 00 13 00 00 00\n.rodata 0x00002000 0\n.data 0x00002000 0\n.sdata 0x00002000 4\n00002000: 07 00 00 00\n.bss 0x00003000 0\n"
unfolding image_text section_bytes image_names section_name section_text section_row byte_rows byte_row hex digits word_of encoding_of row_of layout_of limit_fault operation_named operation_names register_named register_names csr_named csr_names other_forms slots_of set_named set_names modifier_named modifier_names directive_named directive_names section_named section_names
started_image = refl

started_less_image : image_from_0 (lines_after started_lines (Delete 2)) ≡ codes ".text.init 0x00000000 0\n.text 0x00000000 12\n00000000: 13 00 00 00 01 00 01 00 13 00 00 00\n.rodata 0x00001000 0\n.data 0x00001000 0\n.sdata 0x00001000 4\n00001000: 07 00 00 00\n.bss 0x00002000 0\n"
unfolding image_text section_bytes image_names section_name section_text section_row byte_rows byte_row hex digits word_of encoding_of row_of layout_of limit_fault operation_named operation_names register_named register_names csr_named csr_names other_forms slots_of set_named set_names modifier_named modifier_names directive_named directive_names section_named section_names
started_less_image = refl
