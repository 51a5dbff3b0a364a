-- Worked files, computed on the definitions.
use Rattle.std.specs.Prelude.{◌≡◌, ◌++◌, pos, List, [], ◌∷◌, replicate, take, drop, codes, Some, None, refl}
use Rattle.std.specs.List.{filter}
use Rattle.rv_list.specs.Image.{section_names}
use Rattle.rv_files.specs.Cells.{cells_from, cells_of}
use Rattle.rv_files.specs.Elf.{elf_file, elf_bytes, elf_header, program_header, symbol_entry, halves, words, has_value, head, headers_at, section_strings, symbols_at, symbol_strings, symbol_table, name_place}
use Rattle.rv_files.specs.ElfLoading.{elf_cells}
use Rattle.rv_files.specs.Hex.{hex_text, row_text, hex_records}
use Rattle.rv_files.specs.HexLoading.{loaded, start_of}
use Rattle.rv_files.specs.LineMarks.{marks_from}
use Rattle.rv_files.specs.Lines.{lines_of}
use Rattle.rv_files.specs.Bin.{bin_bytes}
use Rattle.rv_files.specs.Segments.{Segment}
use Rattle.rv_files.specs.Symbols.{Symbol}

-- Lines

one_line : lines_of (codes "a\n") ≡ codes "a" ∷ []
one_line = refl

one_line_without_break : lines_of (codes "a") ≡ codes "a" ∷ []
one_line_without_break = refl

empty_last_line : lines_of (codes "a\n\n") ≡ codes "a" ∷ [] ∷ []
empty_last_line = refl

no_line : lines_of [] ≡ []
no_line = refl

one_empty_line : lines_of (codes "\n") ≡ [] ∷ []
one_empty_line = refl

two_lines : lines_of (codes "a\n\nb") ≡ codes "a" ∷ [] ∷ codes "b" ∷ []
two_lines = refl

-- Line marks, as the manual of the GNU C preprocessor has them ("Preprocessor Output")

two_marks : marks_from 1 (codes "# 1 \"main.S\"" ∷ codes "nop" ∷ codes "# 17 \"inc/a b.h\" 1 3" ∷ []) ≡ record { on = 1; line = 1; file = codes "main.S" } ∷ record { on = 3; line = 17; file = codes "inc/a b.h" } ∷ []
two_marks = refl

blanks_and_zeros : marks_from 7 (codes "#\t 04294967295\t\"\"behind" ∷ []) ≡ record { on = 7; line = 4294967295; file = [] } ∷ []
blanks_and_zeros = refl

comments_alone : marks_from 1 (codes "" ∷ codes "#" ∷ codes "# 1" ∷ codes "# 1 main.S" ∷ codes "# 1 \"main.S" ∷ codes "# -1 \"a\"" ∷ codes "# 1 2 \"a\"" ∷ codes " # 1 \"a\"" ∷ codes "nop # 1 \"a\"" ∷ codes "# 4294967296 \"a\"" ∷ []) ≡ []
comments_alone = refl

-- Two instructions

abbrev two_instructions : Segment
two_instructions = record { section = 1; address = 0; bytes = 0x13 ∷ 0x05 ∷ 0x15 ∷ 0x00 ∷ 0xE3 ∷ 0x1E ∷ 0x05 ∷ 0xFE ∷ []; zeros = 0 }

two_instructions_bin : bin_bytes 0 (two_instructions ∷ []) ≡ 0x13 ∷ 0x05 ∷ 0x15 ∷ 0x00 ∷ 0xE3 ∷ 0x1E ∷ 0x05 ∷ 0xFE ∷ []
two_instructions_bin = refl

two_instructions_hex : hex_text (two_instructions ∷ []) 0 ≡ codes ":0800000013051500E31E05FEC7\n:0400000500000000F7\n:00000001FF\n"
unfolding hex_text row_text
two_instructions_hex = refl

-- A gap, and a stretch of seventeen bytes past a multiple of 65,536

abbrev two_segments : List Segment
two_segments = record { section = 1; address = 0xFFF0; bytes = replicate 16 0 ++ 1 ∷ []; zeros = 0 } ∷ record { section = 1; address = 0x10004; bytes = 2 ∷ []; zeros = 0 } ∷ []

gap_bin : bin_bytes 0xFFF0 two_segments ≡ replicate 16 0 ++ 1 ∷ 0 ∷ 0 ∷ 0 ∷ 2 ∷ []
gap_bin = refl

gap_hex : hex_text two_segments 0x10000 ≡ codes ":10FFF0000000000000000000000000000000000001\n:020000040001F9\n:0100000001FE\n:0100040002F9\n:0400000500010000F6\n:00000001FF\n"
unfolding hex_text row_text
gap_hex = refl

gap_loaded : loaded 0 (hex_records two_segments 0x10000) ≡ cells_of two_segments
gap_loaded = refl

gap_start : start_of (hex_records two_segments 0x10000) ≡ Some 0x10000
gap_start = refl

-- No bytes

nothing_bin : bin_bytes 0x1000 [] ≡ []
nothing_bin = refl

nothing_hex : hex_text [] 0x80001000 ≡ codes ":040000058000100067\n:00000001FF\n"
unfolding hex_text row_text
nothing_hex = refl

-- An instruction at 0x1000, and four bytes of `.bss`

abbrev one_section : List Segment
one_section =
    record { section = 1; address = 0x1000; bytes = 0x13 ∷ 0 ∷ 0 ∷ 0 ∷ []; zeros = 0 }
    ∷ record { section = 5; address = 0x2000; bytes = []; zeros = 4 } ∷ []

section_loaded : elf_cells (elf_bytes 0x1000 one_section []) ≡ cells_from 0x1000 (0x13 ∷ 0 ∷ 0 ∷ 0 ∷ []) ++ cells_from 0x2000 (0 ∷ 0 ∷ 0 ∷ 0 ∷ [])
unfolding elf_file head elf_header program_header words halves
section_loaded = refl

abbrev some_symbols : List Symbol
some_symbols =
    record { name = codes "a"; value = Some (pos 0x1000); section = Some 1 }
    ∷ record { name = codes "none"; value = None; section = None }
    ∷ record { name = codes "N"; value = Some (pos 7); section = None } ∷ []

symbols_written : symbol_table one_section (filter has_value some_symbols) ≡ replicate 16 0 ++ 1 ∷ 0 ∷ 0 ∷ 0 ∷ 0 ∷ 16 ∷ 0 ∷ 0 ∷ 0 ∷ 0 ∷ 0 ∷ 0 ∷ 0 ∷ 0 ∷ 1 ∷ 0 ∷ 3 ∷ 0 ∷ 0 ∷ 0 ∷ 7 ∷ 0 ∷ 0 ∷ 0 ∷ 0 ∷ 0 ∷ 0 ∷ 0 ∷ 0 ∷ 0 ∷ 241 ∷ 255 ∷ []
unfolding symbol_table symbol_entry words halves
symbols_written = refl

symbols_named : symbol_strings (filter has_value some_symbols) ≡ 0 ∷ 97 ∷ 0 ∷ 78 ∷ 0 ∷ []
unfolding symbol_strings
symbols_named = refl

sections_placed : headers_at one_section 2 ≡ 0x1034
unfolding symbols_at
sections_placed = refl

header_written : elf_header 0x1000 2 0x1034 ≡ 127 ∷ 69 ∷ 76 ∷ 70 ∷ 1 ∷ 1 ∷ 1 ∷ 0 ∷ 0 ∷ 0 ∷ 0 ∷ 0 ∷ 0 ∷ 0 ∷ 0 ∷ 0 ∷ 2 ∷ 0 ∷ 243 ∷ 0 ∷ 1 ∷ 0 ∷ 0 ∷ 0 ∷ 0 ∷ 16 ∷ 0 ∷ 0 ∷ 52 ∷ 0 ∷ 0 ∷ 0 ∷ 52 ∷ 16 ∷ 0 ∷ 0 ∷ 1 ∷ 0 ∷ 0 ∷ 0 ∷ 52 ∷ 0 ∷ 32 ∷ 0 ∷ 2 ∷ 0 ∷ 40 ∷ 0 ∷ 6 ∷ 0 ∷ 5 ∷ 0 ∷ []
unfolding elf_header words halves
header_written = refl

first_name_placed : take 11 (drop (name_place 0) section_strings) ≡ codes ".text.init" ++ 0 ∷ []
unfolding name_place section_strings section_names
first_name_placed = refl

last_name_placed : drop (name_place 5) section_strings ≡ codes ".bss" ++ 0 ∷ []
unfolding name_place section_strings section_names
last_name_placed = refl
