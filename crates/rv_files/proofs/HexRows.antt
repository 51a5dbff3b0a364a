-- The rows of segments, one after another.
use Rattle.std.proofs.Common.{◌≡◌, ℕ, zero, suc, ◌+◌, ◌-◌, ◌%◌, ◌^◌, ◌<◌, ◌≤◌, List, [], ◌∷◌, ◌++◌, length, take, drop, get_or, refl, ap, sym, ◌∙◌, arith, append_assoc}
use Rattle.std.proofs.lemmas.List.{append-nil, length-drop}
use Rattle.std.proofs.lemmas.Grind.{flat_map-append}
use Rattle.std.specs.List.{flat_map}
use Rattle.rv_files.specs.Segments.{Segment}
use Rattle.rv_text.specs.SliceLaws.{first_and_rest}
use Rattle.rv_files.specs.Hex.{Stretch, record_text, upper_of, upper_records, upper_after, data_records, data_record, start_record, end_record, stretches, stretches_of, row_count, hex_text}

-- one more stretch of sixteen bytes
pub next_stretch : (address : ℕ) (bytes : List ℕ) (count : ℕ) → 0 < count → stretches address bytes count ≡ record { address = address; bytes = take 16 bytes } ∷ stretches ((address + 16) % 2 ^ 32) (drop 16 bytes) (count - 1)
next_stretch address bytes zero some = absurd (omega arith)
next_stretch address bytes (suc count) some =
    let fewer : count ≡ suc count - 1 = omega arith in
    ap (λ n. record { address = address; bytes = take 16 bytes } ∷ stretches ((address + 16) % 2 ^ 32) (drop 16 bytes) n) fewer

-- the records of some stretches, and of others after them
pub records_then : (upper : ℕ) (xs ys : List Stretch) → data_records upper (xs ++ ys) ≡ data_records upper xs ++ data_records (upper_after upper xs) ys
records_then upper [] ys = refl
records_then upper (s ∷ xs) ys =
    ap (λ l. upper_records upper (upper_of s.address) ++ (data_record s ∷ l)) (records_then (upper_of s.address) xs ys)
    ∙ sym (append_assoc (upper_records upper (upper_of s.address)) (data_record s ∷ data_records (upper_of s.address) xs) (data_records (upper_after (upper_of s.address) xs) ys))

-- and their rows
abbrev pub rows_of : (upper : ℕ) → List Stretch → List ℕ
rows_of upper stretches = flat_map record_text (data_records upper stretches)

pub rows_then : (upper : ℕ) (xs ys : List Stretch) → rows_of upper (xs ++ ys) ≡ rows_of upper xs ++ rows_of (upper_after upper xs) ys
rows_then upper xs ys =
    ap (flat_map record_text) (records_then upper xs ys)
    ∙ flat_map-append record_text (data_records upper xs) (data_records (upper_after upper xs) ys)

-- the rows of one stretch
pub stretch_rows : (upper : ℕ) (s : Stretch) → rows_of upper (s ∷ []) ≡ flat_map record_text (upper_records upper (upper_of s.address)) ++ record_text (data_record s)
stretch_rows upper s =
    flat_map-append record_text (upper_records upper (upper_of s.address)) (data_record s ∷ [])
    ∙ ap (λ l. flat_map record_text (upper_records upper (upper_of s.address)) ++ l) (append-nil (record_text (data_record s)))

-- the rows of the next stretch, and of the others
pub next_rows : (upper address : ℕ) (bytes : List ℕ) (count : ℕ) → 0 < count → rows_of upper (stretches address bytes count) ≡ rows_of upper (record { address = address; bytes = take 16 bytes } ∷ []) ++ rows_of (upper_of address) (stretches ((address + 16) % 2 ^ 32) (drop 16 bytes) (count - 1))
next_rows upper address bytes count some =
    ap (rows_of upper) (next_stretch address bytes count some)
    ∙ rows_then upper (record { address = address; bytes = take 16 bytes } ∷ []) (stretches ((address + 16) % 2 ^ 32) (drop 16 bytes) (count - 1))

-- the rows of the next segment, and of the others
pub next_segment : (upper : ℕ) (ss : List Segment) (s : Segment) → 1 ≤ length ss → s ≡ get_or ss 0 s → rows_of upper (flat_map stretches_of ss) ≡ rows_of upper (stretches_of s) ++ rows_of (upper_after upper (stretches_of s)) (flat_map stretches_of (take (length ss - 1) (drop 1 ss)))
next_segment upper ss s some is =
    let later = take (length ss - 1) (drop 1 ss) in
    ap (λ l. rows_of upper (flat_map stretches_of l)) (first_and_rest ss s some)
    ∙ ap (λ (x : Segment). rows_of upper (stretches_of x ++ flat_map stretches_of later)) (sym is)
    ∙ rows_then upper (stretches_of s) (flat_map stretches_of later)

-- the rows of the segments, and the last two
pub all_rows : (segments : List Segment) (entry : ℕ) → hex_text segments entry ≡ rows_of 0 (flat_map stretches_of segments) ++ flat_map record_text (start_record entry ∷ end_record ∷ [])
unfolding hex_text
all_rows segments entry = flat_map-append record_text (data_records 0 (flat_map stretches_of segments)) (start_record entry ∷ end_record ∷ [])
