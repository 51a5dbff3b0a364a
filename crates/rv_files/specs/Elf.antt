-- ELF files of 32 bits, the lowest byte first. (System V ABI, Edition 4.1, chapters 4 and 5; RISC-V ELF psABI, version 1.0, chapter 8)
use Rattle.std.specs.Prelude.{ℕ, pos, ◌+◌, ◌-◌, ◌*◌, ◌/◌, ◌%◌, ◌^◌, ◌==◌, nat_le, Bool, List, [], ◌∷◌, ◌++◌, length, map, take, replicate, codes, Option, Some, None, is_some, unwrap_or, if◌then◌else◌}
use Rattle.std.specs.List.{filter, flat_map}
use Rattle.rv_stmt.specs.declared.section.Sect.TheVariants.{Text, Rodata}
use Rattle.rv_stmt.specs.ValueParts.{word_bits}
use Rattle.rv_layout.specs.Sections.{section_number}
use Rattle.rv_list.specs.Image.{section_names}
use Rattle.rv_files.specs.Bin.{bin_bytes}
use Rattle.rv_files.specs.Segments.{Segment}
use Rattle.rv_files.specs.Symbols.{Symbol}

-- numbers of two and of four bytes
abbrev pub half : ℕ → List ℕ
half n = n % 256 ∷ n / 2 ^ 8 % 256 ∷ []

abbrev pub word : ℕ → List ℕ
word n = n % 256 ∷ n / 2 ^ 8 % 256 ∷ n / 2 ^ 16 % 256 ∷ n / 2 ^ 24 % 256 ∷ []

unfoldable pub halves : List ℕ → List ℕ
halves ns = flat_map half ns

unfoldable pub words : List ℕ → List ℕ
words ns = flat_map word ns

-- Contents

-- the address of the first byte of all
abbrev pub start_of : List Segment → ℕ
start_of [] = 0
start_of (s ∷ later) = s.address

-- the bytes of all segments, as they are in memory
abbrev pub contents : List Segment → List ℕ
contents segments = bin_bytes (start_of segments) segments

-- where the bytes of a segment are in the file, by the address of the first byte of all; those of a segment without bytes, 0x1000
abbrev pub file_offset : (start : ℕ) → Segment → ℕ
file_offset start s = if length s.bytes == 0 then 0x1000 else 0x1000 + (s.address - start)

-- Headers

abbrev pub identification : List ℕ
identification = 0x7F ∷ 0x45 ∷ 0x4C ∷ 0x46 ∷ 1 ∷ 1 ∷ 1 ∷ 0 ∷ 0 ∷ 0 ∷ 0 ∷ 0 ∷ 0 ∷ 0 ∷ 0 ∷ 0 ∷ []

-- where the program headers are, if there are some
abbrev pub programs_at : (programs : ℕ) → ℕ
programs_at programs = if programs == 0 then 0 else 52

-- the header of an executable file for RISC-V with compressed instructions: the start of the program, how many program headers there
-- are, and where the section headers are, of which there are four more
unfoldable pub elf_header : (entry programs sections_at : ℕ) → List ℕ
elf_header entry programs sections_at =
    identification
    ++ (halves (2 ∷ 243 ∷ [])
    ++ (words (1 ∷ entry ∷ programs_at programs ∷ sections_at ∷ 1 ∷ [])
    ++ halves (52 ∷ 32 ∷ programs ∷ 40 ∷ (programs + 4) ∷ (programs + 3) ∷ [])))

-- code may be read and executed, constants read, and the other sections read and written
abbrev pub access : (section : ℕ) → ℕ
access section =
    if nat_le section (section_number Text) then 5 else (if section == section_number Rodata then 4 else 6)

unfoldable pub program_header : (start : ℕ) → Segment → List ℕ
program_header start s =
    words (1 ∷ file_offset start s ∷ s.address ∷ s.address ∷ length s.bytes ∷ (length s.bytes + s.zeros) ∷ access s.section ∷ 4096 ∷ [])

-- names, each ended by a zero, after an empty one
abbrev pub ended : List ℕ → List ℕ
ended name = name ++ 0 ∷ []

abbrev pub string_table : List (List ℕ) → List ℕ
string_table names = 0 ∷ flat_map ended names

-- the names of the sections of the file: those of tables, and those of the language
abbrev pub names_of_tables : List (List ℕ)
names_of_tables = codes ".symtab" ∷ codes ".strtab" ∷ codes ".shstrtab" ∷ []

unfoldable pub section_strings : List ℕ
section_strings = string_table (names_of_tables ++ section_names)

-- where the name of a section is among them
unfoldable pub name_place : (section : ℕ) → ℕ
name_place section = length (string_table (names_of_tables ++ take section section_names))

-- the type of a section header: a section with bytes, or with zeros alone
abbrev pub kind_of : Segment → ℕ
kind_of s = if length s.bytes == 0 then 8 else 1

-- all of a segment is in memory; code is executed, and what is neither code nor constants is written
abbrev pub flags_of : (section : ℕ) → ℕ
flags_of section =
    if nat_le section (section_number Text) then 6 else (if section == section_number Rodata then 2 else 3)

-- a section header of a segment
unfoldable pub segment_header : (start : ℕ) → Segment → List ℕ
segment_header start s =
    words
    (name_place s.section ∷ kind_of s ∷ flags_of s.section ∷ s.address ∷ file_offset start s ∷ (length s.bytes + s.zeros) ∷ 0 ∷ 0 ∷ 1 ∷ 0 ∷ [])

-- Symbols

-- a symbol of the file has a value
abbrev pub has_value : Symbol → Bool
has_value s = is_some s.value

-- the number of the header of a section among those of segments, the first of which has this number; where it has none, that of values that
-- belong to no section
abbrev pub header_number : (first section : ℕ) → List Segment → ℕ
header_number first section [] = 0xFFF1
header_number first section (s ∷ later) = if s.section == section then first else header_number (first + 1) section later

abbrev pub header_of : List Segment → Option ℕ → ℕ
header_of segments None = 0xFFF1
header_of segments (Some section) = header_number 1 section segments

-- the entry of a symbol whose name is at this place among the names: a local one, without a size and a type
unfoldable pub symbol_entry : List Segment → (name : ℕ) → Symbol → List ℕ
symbol_entry segments name s =
    words (name ∷ word_bits (unwrap_or s.value (pos 0)) ∷ 0 ∷ []) ++ halves (0 ∷ header_of segments s.section ∷ [])

-- the entries of symbols, whose names begin at this place
abbrev pub symbol_entries : List Segment → (name : ℕ) → List Symbol → List ℕ
symbol_entries segments name [] = []
symbol_entries segments name (s ∷ later) =
    symbol_entry segments name s ++ symbol_entries segments (name + (length s.name + 1)) later

-- the symbol table, after an empty symbol
unfoldable pub symbol_table : List Segment → List Symbol → List ℕ
symbol_table segments symbols = replicate 16 0 ++ symbol_entries segments 1 symbols

unfoldable pub symbol_strings : List Symbol → List ℕ
symbol_strings symbols = string_table (map (λ s. s.name) symbols)

-- Places

-- how many zeros there are up to a multiple of four
abbrev pub fill : (size : ℕ) → ℕ
fill size = (4 - size % 4) % 4

-- where the symbol table is, after the headers and the contents; the section headers, after so many symbols and an empty one; and the names
-- of the symbols
unfoldable pub symbols_at : List Segment → ℕ
symbols_at segments = 0x1000 + length (contents segments) + fill (length (contents segments))

abbrev pub headers_at : List Segment → (symbols : ℕ) → ℕ
headers_at segments symbols = symbols_at segments + 16 * (symbols + 1)

abbrev pub strings_at : List Segment → (symbols : ℕ) → ℕ
strings_at segments symbols = headers_at segments symbols + 40 * (length segments + 4)

-- The file

-- the section header of so many symbols; that of their names, which have so many bytes; and that of the names of the sections
abbrev pub symbols_header : List Segment → (symbols : ℕ) → List ℕ
symbols_header segments symbols =
    words (1 ∷ 2 ∷ 0 ∷ 0 ∷ symbols_at segments ∷ (16 * (symbols + 1)) ∷ (length segments + 2) ∷ (symbols + 1) ∷ 4 ∷ 16 ∷ [])

abbrev pub strings_header : List Segment → (symbols strings : ℕ) → List ℕ
strings_header segments symbols strings = words (9 ∷ 3 ∷ 0 ∷ 0 ∷ strings_at segments symbols ∷ strings ∷ 0 ∷ 0 ∷ 1 ∷ 0 ∷ [])

abbrev pub names_header : List Segment → (symbols strings : ℕ) → List ℕ
names_header segments symbols strings =
    words (17 ∷ 3 ∷ 0 ∷ 0 ∷ (strings_at segments symbols + strings) ∷ length section_strings ∷ 0 ∷ 0 ∷ 1 ∷ 0 ∷ [])

-- all section headers, after an empty one
unfoldable pub section_headers : List Segment → (symbols strings : ℕ) → List ℕ
section_headers segments symbols strings =
    replicate 40 0 ++ (flat_map (segment_header (start_of segments)) segments ++ (symbols_header segments symbols ++ (strings_header segments symbols strings ++ names_header segments symbols strings)))

-- what comes before the contents: the headers of the file and of the segments, and zeros up to 0x1000
unfoldable pub head : (entry : ℕ) → List Segment → (sections_at : ℕ) → List ℕ
head entry segments sections_at =
    elf_header entry (length segments) sections_at
    ++ (flat_map (program_header (start_of segments)) segments ++ replicate (0x1000 - (52 + 32 * length segments)) 0)

-- what comes after them: zeros up to a multiple of four, the symbols, the section headers, the names of the symbols and those of the sections
unfoldable pub tail : List Segment → List Symbol → List ℕ
tail segments symbols =
    replicate (fill (length (contents segments))) 0
    ++ (symbol_table segments symbols
    ++ (section_headers segments (length symbols) (length (symbol_strings symbols)) ++ (symbol_strings symbols ++ section_strings)))

unfoldable pub elf_file : (entry : ℕ) → List Segment → List Symbol → List ℕ
elf_file entry segments symbols =
    head entry segments (headers_at segments (length symbols)) ++ (contents segments ++ tail segments symbols)

-- the file of segments and the symbols that have a value
abbrev pub elf_bytes : (entry : ℕ) → List Segment → List Symbol → List ℕ
elf_bytes entry segments symbols = elf_file entry segments (filter has_value symbols)
