-- Worked texts, computed on the definitions.
use Rattle.std.specs.Prelude.{◌≡◌, ℕ, negsuc, pos, ◌-◌, ◌++◌, List, [], ◌∷◌, replicate, length, get_or, bytes_eq, codes, Option, Some, None, refl, if◌then◌else◌}
use Rattle.std.specs.Fmt.{digits}
use Rattle.rv_text.specs.declared.faults.Fault.{Fault}
use Rattle.rv_text.specs.declared.faults.FaultNumber.{FaultNumber}
use Rattle.rv_text.specs.declared.faults.FaultNumber.TheVariants.{Range}
use Rattle.rv_text.specs.Rows.{hex}
use Rattle.rv_ops.specs.Csrs.{csr_named, csr_names}
use Rattle.rv_ops.specs.Registers.{register_named, register_names}
use Rattle.rv_ops.specs.Table.{operation_named, operation_names, row_of, layout_of}
use Rattle.rv_stmt.specs.declared.section.Sect.{Sect}
use Rattle.rv_stmt.specs.declared.section.Sect.TheVariants as section
use Rattle.rv_stmt.specs.Directives.{directive_named, directive_names}
use Rattle.rv_stmt.specs.Forms.{other_forms, slots_of}
use Rattle.rv_stmt.specs.Registers.{set_named, set_names}
use Rattle.rv_stmt.specs.Sections.{section_named, section_names}
use Rattle.rv_stmt.specs.Statement.{statement_of}
use Rattle.rv_stmt.specs.Values.{modifier_named, modifier_names}
use Rattle.rv_list.specs.declared.view.DefinitionPlace.{DefinitionPlace}
use Rattle.rv_list.specs.declared.view.DefinitionPlace.TheVariants.{Nowhere, Label, Equ}
use Rattle.rv_list.specs.declared.view.SectionPlace.{SectionPlace}
use Rattle.rv_list.specs.Faults.{fault_name, fault_row, faults_of, fault_text}
use Rattle.rv_list.specs.Image.{byte_row, byte_rows, section_row, section_names as names_of_sections, section_name, section_bytes, section_text, image_text}
use Rattle.rv_list.specs.Listing.{first_bytes, listing_columns, listing_row, listing_text}
use Rattle.rv_list.specs.Rows.{count_row}
use Rattle.rv_list.specs.Shown.{Shown, ShownLine}
use Rattle.rv_list.specs.Symbols.{label_row, label_columns, equ_row, equ_columns, line_symbols, symbol_text}

-- Texts written out

abbrev line_of : (text : List ℕ) → Sect → (address size : ℕ) → (bytes : List ℕ) → Option Fault → ShownLine
line_of text section address size bytes fault = record {
  text = text;
  stmt = statement_of text;
  place = record { section = section; address = address; size = size };
  code = record { payload = bytes; fault = fault };
}

-- a line of `.text` without a fault
abbrev plain : (text : List ℕ) → (address : ℕ) → (bytes : List ℕ) → ShownLine
plain text address bytes = line_of text section.Text address (length bytes) bytes None

abbrev fault_at : FaultNumber → (from to : ℕ) → Option Fault
fault_at number from to = Some (record { number = number; span = record { from = from; to = to } })

abbrev at : (base size : ℕ) → SectionPlace
at base size = record { base = base; size = size }

abbrev text_of : List ShownLine → List SectionPlace → (List ℕ → DefinitionPlace) → Shown
text_of lines sections definition = record {
  count = length lines;
  line = λ i. get_or lines (i - 1) (plain [] 0 []);
  section = λ t. get_or sections t (at 0 0);
  definition = definition;
  value = λ name. if bytes_eq name (codes "lost") then None else (if bytes_eq name (codes "D") then Some (negsuc 3) else Some (pos 5000));
}

-- No lines

abbrev nothing : Shown
nothing = text_of [] [] (λ name. Nowhere)

image_of_nothing : image_text nothing ≡ codes ".text.init 0x00000000 0\n.text 0x00000000 0\n.rodata 0x00000000 0\n.data 0x00000000 0\n.sdata 0x00000000 0\n.bss 0x00000000 0\n"
unfolding image_text section_text section_row section_name names_of_sections section_bytes byte_rows byte_row hex digits
image_of_nothing = refl

listing_of_nothing : listing_text nothing ≡ codes "listing 0\n"
unfolding listing_text count_row digits
listing_of_nothing = refl

symbols_of_nothing : symbol_text nothing ≡ codes "symbols 0\n"
unfolding symbol_text line_symbols count_row digits
symbols_of_nothing = refl

faults_of_nothing : fault_text nothing ≡ codes "faults 0\n"
unfolding fault_text count_row digits
faults_of_nothing = refl

-- An instruction at an odd address, and after it a second definition and a value out of range

abbrev odd : Shown
odd = text_of (plain (codes ".byte 1") 0 (1 ∷ [])
    ∷ plain (codes "x: addi a0, a0, 1") 1 (0x13 ∷ 0x05 ∷ 0x15 ∷ 0x00 ∷ [])
    ∷ line_of (codes "x: .byte 300") section.Text 5 1 (0 ∷ []) (fault_at Range 9 12)
    ∷ []) (at 0 0 ∷ at 0 6 ∷ at 4096 0 ∷ at 4096 0 ∷ at 4096 0 ∷ at 4096 0 ∷ []) (λ name. if bytes_eq name (codes "x") then Label 2 0 else Nowhere)

odd_image : image_text odd ≡ codes ".text.init 0x00000000 0\n.text 0x00000000 6\n00000000: 01 13 05 15 00 00\n.rodata 0x00001000 0\n.data 0x00001000 0\n.sdata 0x00001000 0\n.bss 0x00001000 0\n"
unfolding image_text section_text section_row section_name names_of_sections section_bytes byte_rows byte_row hex digits
odd_image = refl

odd_faults : fault_text odd ≡ codes "faults 3\n2 3 7 20 OddAddress\n3 0 1 19 Duplicate\n3 9 12 16 Range\n"
unfolding fault_text faults_of fault_row fault_name count_row digits operation_named operation_names register_named register_names csr_named csr_names row_of layout_of other_forms slots_of set_named set_names modifier_named modifier_names directive_named directive_names section_named section_names
odd_faults = refl

odd_symbols : symbol_text odd ≡ codes "symbols 1\n2 label 0x00000001 x\n"
unfolding symbol_text line_symbols label_row label_columns equ_row equ_columns count_row hex digits operation_named operation_names register_named register_names csr_named csr_names row_of layout_of other_forms slots_of set_named set_names modifier_named modifier_names directive_named directive_names section_named section_names
odd_symbols = refl

-- Constants that are loaded: eight bytes or fewer

abbrev loads : Shown
loads = text_of (plain (codes "li a0, 2047") 0 (0x13 ∷ 0x05 ∷ 0xf0 ∷ 0x7f ∷ [])
    ∷ plain (codes "li a0, 2048") 4 (0x37 ∷ 0x15 ∷ 0x00 ∷ 0x00 ∷ 0x13 ∷ 0x05 ∷ 0x05 ∷ 0x80 ∷ [])
    ∷ plain (codes "li a0, -1") 0xc (0x13 ∷ 0x05 ∷ 0xf0 ∷ 0xff ∷ [])
    ∷ plain (codes "li a0, 0xFFFFFFFF") 0x10 (0x13 ∷ 0x05 ∷ 0xf0 ∷ 0xff ∷ [])
    ∷ []) [] (λ name. Nowhere)

loads_listing : listing_text loads ≡ codes "listing 4\n    1 00000000 1305f07f          li a0, 2047\n    2 00000004 3715000013050580  li a0, 2048\n    3 0000000c 1305f0ff          li a0, -1\n    4 00000010 1305f0ff          li a0, 0xFFFFFFFF\n"
unfolding listing_text listing_row listing_columns first_bytes count_row hex digits
loads_listing = refl

-- Data of more than eight bytes, and the same in `.bss`

abbrev words : Shown
words = text_of (plain (codes ".word 1, 2, 3") 0 (1 ∷ 0 ∷ 0 ∷ 0 ∷ 2 ∷ 0 ∷ 0 ∷ 0 ∷ 3 ∷ 0 ∷ 0 ∷ 0 ∷ [])
    ∷ plain (codes ".bss") 12 []
    ∷ line_of (codes "b: .word 1, 2, 3") section.Bss 4096 12 (1 ∷ 0 ∷ 0 ∷ 0 ∷ 2 ∷ 0 ∷ 0 ∷ 0 ∷ 3 ∷ 0 ∷ 0 ∷ 0 ∷ []) None
    ∷ line_of (codes ".space 4") section.Bss 4108 4 (0 ∷ 0 ∷ 0 ∷ 0 ∷ []) None
    ∷ []) (at 0 0 ∷ at 0 12 ∷ at 4096 0 ∷ at 4096 0 ∷ at 4096 0 ∷ at 4096 16 ∷ []) (λ name. if bytes_eq name (codes "b") then Label 3 0 else Nowhere)

words_listing : listing_text words ≡ codes "listing 4\n    1 00000000 0100000002000000+ .word 1, 2, 3\n    2 0000000c                   .bss\n    3 00001000                   b: .word 1, 2, 3\n    4 0000100c                   .space 4\n"
unfolding listing_text listing_row listing_columns first_bytes count_row hex digits
words_listing = refl

words_image : image_text words ≡ codes ".text.init 0x00000000 0\n.text 0x00000000 12\n00000000: 01 00 00 00 02 00 00 00 03 00 00 00\n.rodata 0x00001000 0\n.data 0x00001000 0\n.sdata 0x00001000 0\n.bss 0x00001000 16\n"
unfolding image_text section_text section_row section_name names_of_sections section_bytes byte_rows byte_row hex digits
words_image = refl

words_faults : fault_text words ≡ codes "faults 1\n3 3 8 21 InBss\n"
unfolding fault_text faults_of fault_row fault_name count_row digits operation_named operation_names register_named register_names csr_named csr_names row_of layout_of other_forms slots_of set_named set_names modifier_named modifier_names directive_named directive_names section_named section_names
words_faults = refl

-- Symbols, among them an `.equ` of a name that has its definition before, and one without a value

abbrev definition : List ℕ → DefinitionPlace
definition name = if bytes_eq name (codes "N") then Equ 1
    else (if bytes_eq name (codes "start") then Label 3 0
    else (if bytes_eq name (codes "s") then Label 3 2
    else (if bytes_eq name (codes "end") then Label 4 0
    else (if bytes_eq name (codes "D") then Equ 5 else Equ 6))))

abbrev constants : Shown
constants = text_of (plain (codes ".equ N, 4") 0 []
    ∷ plain (codes ".equ N, 5000") 0 []
    ∷ plain (codes "start: 1: s: li a0, N") 0 (0x13 ∷ 0x05 ∷ 0x40 ∷ 0x00 ∷ [])
    ∷ plain (codes "end: start: nop") 4 (0x13 ∷ 0 ∷ 0 ∷ 0 ∷ [])
    ∷ plain (codes ".equ D, start - end") 8 []
    ∷ line_of (codes "D: .equ lost, 1/0") section.Text 8 0 [] None
    ∷ []) [] definition

constants_symbols : symbol_text constants ≡ codes "symbols 6\n1 equ 5000 N\n3 label 0x00000000 start\n3 label 0x00000000 s\n4 label 0x00000004 end\n5 equ -4 D\n6 equ ? lost\n"
unfolding symbol_text line_symbols label_row label_columns equ_row equ_columns count_row hex digits operation_named operation_names register_named register_names csr_named csr_names row_of layout_of other_forms slots_of set_named set_names modifier_named modifier_names directive_named directive_names section_named section_names
constants_symbols = refl

constants_faults : fault_text constants ≡ codes "faults 3\n2 5 6 19 Duplicate\n4 5 10 19 Duplicate\n6 0 1 19 Duplicate\n"
unfolding fault_text faults_of fault_row fault_name count_row digits operation_named operation_names register_named register_names csr_named csr_names row_of layout_of other_forms slots_of set_named set_names modifier_named modifier_names directive_named directive_names section_named section_names
constants_faults = refl

-- two rows of bytes, the second of one byte
seventeen_bytes : byte_rows 0x80000000 (replicate 16 0xAB ++ 1 ∷ []) ≡ codes "80000000: ab ab ab ab ab ab ab ab ab ab ab ab ab ab ab ab\n80000010: 01\n"
unfolding byte_rows byte_row hex
seventeen_bytes = refl

sixteen_bytes : byte_rows 0 (replicate 16 0) ≡ codes "00000000: 00 00 00 00 00 00 00 00 00 00 00 00 00 00 00 00\n"
unfolding byte_rows byte_row hex
sixteen_bytes = refl
