-- What a loader makes of an ELF file.
use Rattle.std.proofs.Common.{◌≡◌, ℕ, ◌+◌, ◌-◌, ◌*◌, ◌/◌, ◌%◌, ◌^◌, ◌<◌, ◌≤◌, Bool, true, false, List, [], ◌∷◌, ◌++◌, length, take, drop, refl, ap, sym, ◌∙◌, arith, append_assoc}
use Rattle.std.specs.Prelude.{replicate, nat_eq, if◌then◌else◌}
use Rattle.std.specs.List.{filter, flat_map}
use Rattle.std.proofs.Math.Seq.{take-append_seam, drop-append_seam}
use Rattle.std.proofs.lemmas.List.{drop-drop, length-append, length-replicate, nil_from_length}
use Rattle.std.proofs.lemmas.Bool.Decides.{nat_tests}
use Rattle.rv_files.specs.Bin.{bin_bytes, AreAscending}
use Rattle.rv_files.specs.Cells.{cells_from}
use Rattle.rv_files.specs.Elf.{word, halves, words, elf_header, file_offset, program_header, start_of, contents, has_value, head, tail, headers_at, elf_file, elf_bytes}
use Rattle.rv_files.specs.ElfLoading.{half_at, word_at, header_cells, table_cells, elf_cells, elf_start, cells_in_memory, AreLoadable}
use Rattle.rv_files.specs.Segments.{Segment}
use Rattle.rv_files.specs.Symbols.{Symbol}
use Rattle.rv_files.proofs.BinLaw.{ascend_from}

-- a number of four bytes that was written is read
word_read : (n : ℕ) → n < 2 ^ 32 → n % 256 + 2 ^ 8 * (n / 2 ^ 8 % 256) + 2 ^ 16 * (n / 2 ^ 16 % 256 + 2 ^ 8 * (n / 2 ^ 24 % 256)) ≡ n
word_read n within = omega (arith, within)

half_read : (n : ℕ) → n < 2 ^ 16 → n % 256 + 2 ^ 8 * (n / 2 ^ 8 % 256) ≡ n
half_read n within = omega (arith, within)

-- a segment fits, and its bytes are in the file
record IsPlaced (file : List ℕ) (start : ℕ) (s : Segment) : Type 0 where
  place : file_offset start s < 2 ^ 32
  address : s.address < 2 ^ 32
  size : length s.bytes + s.zeros < 2 ^ 32
  bytes : take (length s.bytes) (drop (file_offset start s) file) ≡ s.bytes

-- its program header loads it
header_loads : (file : List ℕ) (start : ℕ) (s : Segment) (more : List ℕ) → IsPlaced file start s → header_cells file (program_header start s ++ more) ≡ cells_from s.address (s.bytes ++ replicate s.zeros 0)
unfolding program_header words
header_loads file start s more placed =
    let place = word_read (file_offset start s) placed.place in
    let address = word_read s.address placed.address in
    let few : length s.bytes < 2 ^ 32 = omega (arith, placed.size) in
    let bytes = word_read (length s.bytes) few in
    let size = word_read (length s.bytes + s.zeros) placed.size in
    let zeros : length s.bytes + s.zeros - length s.bytes ≡ s.zeros = omega arith in
    rw (address, bytes, place, size, placed.bytes, zeros) refl

abbrev ArePlaced : (file : List ℕ) (start : ℕ) → List Segment → Type 0
ArePlaced file start [] = Unit {0}
ArePlaced file start (s ∷ later) = IsPlaced file start s × ArePlaced file start later

table_loads : (file : List ℕ) (start : ℕ) (ss : List Segment) (more : List ℕ) → ArePlaced file start ss → table_cells file 32 (flat_map (program_header start) ss ++ more) (length ss) ≡ cells_in_memory ss
unfolding program_header words
table_loads file start [] more placed = refl
table_loads file start (s ∷ later) more placed =
    let rest = flat_map (program_header start) later ++ more in
    ap (λ cells. cells ++ table_cells file 32 rest (length later)) (header_loads file start s rest placed.0)
    ∙ ap (λ cells. cells_from s.address (s.bytes ++ replicate s.zeros 0) ++ cells) (table_loads file start later more placed.1)

-- past the first items
past : (xs ys : List ℕ) (n : ℕ) → length xs ≡ n → drop n (xs ++ ys) ≡ ys
past xs ys n e = rw (← e) (drop-append_seam xs ys)

-- the bytes of each segment are where its program header says
are_placed : (file : List ℕ) (start at : ℕ) (ss : List Segment) (tail : List ℕ) → start ≤ at → drop (0x1000 + (at - start)) file ≡ bin_bytes at ss ++ tail → AreAscending at ss → AreLoadable ss → ArePlaced file start ss
are_placed file start at [] tail from those ascending fit = tt
are_placed file start at (s ∷ later) tail from those ascending fit =
    by_bytes (λ next above behind rest. are_placed file start next later tail above rest (ascend_from (s.address + length s.bytes + s.zeros) next later behind ascending.1) fit.1)
    (nat_eq (length s.bytes) 0) refl those
  where
    by_bytes : ((next : ℕ) → start ≤ next → next ≤ s.address + length s.bytes + s.zeros → drop (0x1000 + (next - start)) file ≡ bin_bytes next later ++ tail → ArePlaced file start later)
        → (none : Bool) → nat_eq (length s.bytes) 0 ≡ none
        → drop (0x1000 + (at - start)) file ≡ ((if none then [] else replicate (s.address - at) 0 ++ s.bytes) ++ bin_bytes (if none then at else s.address + length s.bytes) later) ++ tail
        → IsPlaced file start s × ArePlaced file start later
    by_bytes others true e here =
        let none : length s.bytes ≡ 0 = grind (arith, nat_tests, e) in
        let offset : file_offset start s ≡ 0x1000 = ap (λ c. if c then 0x1000 else 0x1000 + (s.address - start)) e in (
          record {
            place = omega (arith, offset);
            address = omega (arith, fit.0);
            size = omega (arith, fit.0);
            bytes = ap (λ n. take n (drop (file_offset start s) file)) none ∙ sym (nil_from_length s.bytes none);
          },
          others at from (omega (arith, ascending.0)) here,
        )
    by_bytes others false e here =
        let len = length s.bytes in
        let end = s.address + len in
        let rest = bin_bytes end later in
        let gap = replicate {A = ℕ} (s.address - at) 0 in
        let offset : file_offset start s ≡ 0x1000 + (s.address - start) = ap (λ c. if c then 0x1000 else 0x1000 + (s.address - start)) e in
        let place : 0x1000 + (s.address - start) ≡ 0x1000 + (at - start) + (s.address - at) = omega (arith, ascending.0, from) in
        let next : 0x1000 + (end - start) ≡ 0x1000 + (s.address - start) + len = omega (arith, ascending.0, from) in
        let found : drop (0x1000 + (s.address - start)) file ≡ s.bytes ++ (rest ++ tail) =
        ap (λ n. drop n file) place
        ∙ sym (drop-drop (s.address - at) (0x1000 + (at - start)) file)
        ∙ ap (drop (s.address - at)) (here ∙ append_assoc (gap ++ s.bytes) rest tail ∙ append_assoc gap s.bytes (rest ++ tail))
        ∙ past gap (s.bytes ++ (rest ++ tail)) (s.address - at) (length-replicate (s.address - at) 0) in
        let behind : drop (0x1000 + (end - start)) file ≡ rest ++ tail =
        ap (λ n. drop n file) next
        ∙ sym (drop-drop len (0x1000 + (s.address - start)) file)
        ∙ ap (drop len) found
        ∙ past s.bytes (rest ++ tail) len refl in (
          record {
            place = omega (arith, offset, fit.0);
            address = omega (arith, fit.0);
            size = omega (arith, fit.0);
            bytes = ap (take len) (ap (λ n. drop n file) offset ∙ found) ∙ take-append_seam s.bytes (rest ++ tail);
          },
          others end (omega (arith, ascending.0, from)) (omega arith) behind,
        )

length_headers : (start : ℕ) (ss : List Segment) → length (flat_map (program_header start) ss) ≡ 32 * length ss
unfolding program_header words
length_headers start [] = refl
length_headers start (s ∷ later) = omega (arith, length-append (program_header start s) (flat_map (program_header start) later), length_headers start later)

pub headers_size : (entry : ℕ) (ss : List Segment) (sections_at : ℕ) → length (elf_header entry (length ss) sections_at ++ flat_map (program_header (start_of ss)) ss) ≡ 52 + 32 * length ss
unfolding elf_header words halves
headers_size entry ss sections_at =
    omega (arith, length-append (elf_header entry (length ss) sections_at) (flat_map (program_header (start_of ss)) ss), length_headers (start_of ss) ss)

-- the headers have 0x1000 bytes
length_head : (entry : ℕ) (ss : List Segment) (sections_at : ℕ) → length ss ≤ 6 → length (head entry ss sections_at) ≡ 0x1000
unfolding head elf_header words halves
length_head entry ss sections_at few =
    let table = flat_map (program_header (start_of ss)) ss in
    let zeros = 0x1000 - (52 + 32 * length ss) in
    let pad = replicate {A = ℕ} zeros 0 in
    omega (arith, few, length-append (elf_header entry (length ss) sections_at) (table ++ pad), length-append table pad, length_headers (start_of ss) ss, length-replicate {A = ℕ} zeros 0)

head_loads : (entry : ℕ) (ss : List Segment) (sections_at : ℕ) (rest : List ℕ) → length ss ≤ 6 → AreAscending (start_of ss) ss → AreLoadable ss → elf_cells (head entry ss sections_at ++ (contents ss ++ rest)) ≡ cells_in_memory ss
unfolding head elf_header program_header words halves
head_loads entry [] sections_at rest few ascending fit = refl
head_loads entry (s ∷ later) sections_at rest few ascending fit =
    let ss = s ∷ later in
    let file = head entry ss sections_at ++ (contents ss ++ rest) in
    let start = s.address in
    let same : 0x1000 + (start - start) ≡ 0x1000 = omega arith in
    let begins : drop (0x1000 + (start - start)) file ≡ contents ss ++ rest =
    ap (λ n. drop n file) same ∙ past (head entry ss sections_at) (contents ss ++ rest) 0x1000 (length_head entry ss sections_at few) in
    let placed : ArePlaced file start ss = are_placed file start start ss rest (omega arith) begins ascending fit in
    let some : nat_eq (length ss) 0 ≡ false = grind (arith, nat_tests) in
    let place : word_at file 28 ≡ 52 = ap (λ none. word_at (word (if none then 0 else 52)) 0) some in
    let count : half_at file 44 ≡ length ss = half_read (length ss) (omega (arith, few)) in
    let table = flat_map (program_header start) ss in
    let pad = replicate {A = ℕ} (0x1000 - (52 + 32 * length ss)) 0 in
    ap (λ at. table_cells file 32 (drop at file) (half_at file 44)) place
    ∙ ap (table_cells file 32 (drop 52 file)) count
    ∙ ap (λ headers. table_cells file 32 headers (length ss)) (append_assoc table pad (contents ss ++ rest))
    ∙ table_loads file start ss (pad ++ (contents ss ++ rest)) placed

file_loads : (entry : ℕ) (ss : List Segment) (symbols : List Symbol) → length ss ≤ 6 → AreAscending (start_of ss) ss → AreLoadable ss → elf_cells (elf_file entry ss symbols) ≡ cells_in_memory ss
unfolding elf_file
file_loads entry ss symbols few ascending fit = head_loads entry ss (headers_at ss (length symbols)) (tail ss symbols) few ascending fit

pub elf_loads : (entry : ℕ) (ss : List Segment) (symbols : List Symbol) → length ss ≤ 6 → AreAscending (start_of ss) ss → AreLoadable ss → elf_cells (elf_bytes entry ss symbols) ≡ cells_in_memory ss
elf_loads entry ss symbols few ascending fit = file_loads entry ss (filter has_value symbols) few ascending fit

pub elf_starts : (entry : ℕ) (ss : List Segment) (symbols : List Symbol) → entry < 2 ^ 32 → elf_start (elf_bytes entry ss symbols) ≡ entry
unfolding elf_file head elf_header words halves
elf_starts entry ss symbols within = word_read entry within
