-- What a loader of an ELF file puts into memory. (System V ABI, Edition 4.1, chapters 4 and 5)
use Rattle.std.specs.Prelude.{ℕ, ◌<◌, zero, suc, ◌+◌, ◌-◌, ◌*◌, ◌^◌, ◌==◌, List, [], ◌∷◌, ◌++◌, length, take, drop, replicate, slice_index, if◌then◌else◌}
use Rattle.std.specs.List.{flat_map}
use Rattle.rv_files.specs.Cells.{Cell, cells_from}
use Rattle.rv_files.specs.Segments.{Segment}

-- the numbers of two and of four bytes at a place, the lowest byte first
abbrev pub half_at : List ℕ → (place : ℕ) → ℕ
half_at bytes place = slice_index bytes place + 2 ^ 8 * slice_index bytes (place + 1)

abbrev pub word_at : List ℕ → (place : ℕ) → ℕ
word_at bytes place = half_at bytes place + 2 ^ 16 * half_at bytes (place + 2)

-- what the program header at the front of some bytes loads, where it is of type 1: bytes of the file, by their place and their number, and
-- zeros up to the size in memory
abbrev pub header_cells : (file header : List ℕ) → List Cell
header_cells file header =
    if word_at header 0 == 1
    then cells_from (word_at header 8) (take (word_at header 16) (drop (word_at header 4) file) ++ replicate (word_at header 20 - word_at header 16) 0)
    else []

-- what so many program headers load, each of this size, the first of them at the front of the table
abbrev pub table_cells : (file : List ℕ) (size : ℕ) (table : List ℕ) → (count : ℕ) → List Cell
table_cells file size table zero = []
table_cells file size table (suc count) = header_cells file table ++ table_cells file size (drop size table) count

-- what the file loads: its header says where the program headers are, of what size and how many
abbrev pub elf_cells : (file : List ℕ) → List Cell
elf_cells file = table_cells file (half_at file 42) (drop (word_at file 28) file) (half_at file 44)

-- where the program starts
abbrev pub elf_start : (file : List ℕ) → ℕ
elf_start file = word_at file 24

-- the bytes of segments and their zeros, at their addresses
abbrev pub cells_in_memory : List Segment → List Cell
cells_in_memory segments = flat_map (λ s. cells_from s.address (s.bytes ++ replicate s.zeros 0)) segments

-- the addresses and places of segments fit in four bytes
abbrev pub AreLoadable : List Segment → Type 0
AreLoadable [] = Unit {0}
AreLoadable (s ∷ later) = (s.address + length s.bytes + s.zeros + 0x1000 < 2 ^ 32) × AreLoadable later
