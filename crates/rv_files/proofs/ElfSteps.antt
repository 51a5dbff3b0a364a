-- Numbers and parts of ELF files, as they are counted modulo 2^64.
use Rattle.std.proofs.Common.{◌≡◌, ℕ, ◌≤◌, ◌+◌, ◌-◌, ◌*◌, ◌/◌, ◌%◌, ◌^◌, List, [], ◌∷◌, ◌++◌, length, refl, ap, ◌∙◌, arith}
use Rattle.std.specs.Prelude.{pos, replicate, unwrap_or}
use Rattle.std.specs.List.{flat_map}
use Rattle.std.proofs.lemmas.List.{take_all}
use Rattle.rv_list.specs.Image.{section_names}
use Rattle.rv_stmt.specs.ValueParts.{word_bits}
use Rattle.rv_files.specs.Elf.{identification, programs_at, elf_header, program_header, start_of, head, word, words, halves, header_of, symbol_entry, symbol_entries, names_of_tables, string_table, name_place}
use Rattle.rv_files.specs.Segments.{Segment}
use Rattle.rv_files.specs.Symbols.{Symbol}

-- numbers with the same lowest 32 bits have the same four bytes
word_same : (a b : ℕ) → a % 2 ^ 32 ≡ b % 2 ^ 32 → word a ≡ word b
word_same a b e =
    let first : a % 256 ≡ b % 256 = omega (arith, e) in
    let second : a / 2 ^ 8 % 256 ≡ b / 2 ^ 8 % 256 = omega (arith, e) in
    let third : a / 2 ^ 16 % 256 ≡ b / 2 ^ 16 % 256 = omega (arith, e) in
    let fourth : a / 2 ^ 24 % 256 ≡ b / 2 ^ 24 % 256 = omega (arith, e) in
    rw (first, second, third, fourth) refl

abbrev pub AreSame : List ℕ → List ℕ → Type 0
AreSame [] ys = [] ≡ ys
AreSame (x ∷ xs) [] = ⊥
AreSame (x ∷ xs) (y ∷ ys) = (x % 2 ^ 32 ≡ y % 2 ^ 32) × AreSame xs ys

pub words_same : (xs ys : List ℕ) → AreSame xs ys → words xs ≡ words ys
unfolding words
words_same [] ys e = ap words e
words_same (x ∷ xs) [] e = absurd e
words_same (x ∷ xs) (y ∷ ys) e = ap (λ w. w ++ words xs) (word_same x y e.0) ∙ ap (λ l. word y ++ l) (words_same xs ys e.1)

-- the places of names are counted modulo 2^32
entries_same : (segments : List Segment) (a b : ℕ) (symbols : List Symbol) → a % 2 ^ 32 ≡ b % 2 ^ 32 → symbol_entries segments a symbols ≡ symbol_entries segments b symbols
unfolding symbol_entry
entries_same segments a b [] e = refl
entries_same segments a b (s ∷ later) e =
    let value = word_bits (unwrap_or s.value (pos 0)) in
    let header = halves (0 ∷ header_of segments s.section ∷ []) in
    let next : (a + (length s.name + 1)) % 2 ^ 32 ≡ (b + (length s.name + 1)) % 2 ^ 32 = omega (arith, e) in
    ap (λ w. (w ++ header) ++ symbol_entries segments (a + (length s.name + 1)) later) (words_same (a ∷ value ∷ 0 ∷ []) (b ∷ value ∷ 0 ∷ []) (e, (refl, (refl, refl))))
    ∙ ap (λ l. symbol_entry segments b s ++ l) (entries_same segments (a + (length s.name + 1)) (b + (length s.name + 1)) later next)

pub entries_mod : (segments : List Segment) (name : ℕ) (symbols : List Symbol) → symbol_entries segments (name % 2 ^ 64) symbols ≡ symbol_entries segments name symbols
entries_mod segments name symbols = entries_same segments (name % 2 ^ 64) name symbols (omega arith)

-- behind the names of all sections
pub last_place : (section : ℕ) → 6 ≤ section → name_place section ≡ 70
unfolding name_place section_names
last_place section many =
    ap (λ names. length (string_table (names_of_tables ++ names))) (take_all section section_names (omega (arith, many)))

-- the place of the section headers is counted modulo 2^32
pub head_mod : (entry : ℕ) (segments : List Segment) (at : ℕ) → head entry segments (at % 2 ^ 64) ≡ head entry segments at
unfolding head elf_header
head_mod entry segments at =
    let count = length segments in
    let programs = programs_at count in
    let rest = flat_map (program_header (start_of segments)) segments ++ replicate (0x1000 - (52 + 32 * count)) 0 in
    ap (λ w. (identification ++ (halves (2 ∷ 243 ∷ []) ++ (w ++ halves (52 ∷ 32 ∷ count ∷ 40 ∷ (count + 4) ∷ (count + 3) ∷ [])))) ++ rest)
    (words_same (1 ∷ entry ∷ programs ∷ (at % 2 ^ 64) ∷ 1 ∷ []) (1 ∷ entry ∷ programs ∷ at ∷ 1 ∷ []) (refl, (refl, (refl, (omega arith, (refl, refl))))))
