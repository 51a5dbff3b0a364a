-- What a loader makes of the rows of segments.
use Rattle.std.proofs.Common.{◌≡◌, ℕ, zero, suc, ◌+◌, ◌*◌, ◌/◌, ◌%◌, ◌^◌, ◌<◌, ◌≤◌, Bool, true, false, List, [], ◌∷◌, ◌++◌, length, drop, Some, refl, ap, sym, ◌∙◌, arith, append_assoc}
use Rattle.std.specs.Prelude.{nat_eq, if◌then◌else◌}
use Rattle.std.specs.List.{sum, flat_map}
use Rattle.std.proofs.lemmas.Bool.Decides.{nat_tests}
use Rattle.std.proofs.lemmas.List.{append-nil, length-take}
use Rattle.std.proofs.lemmas.List.Elements.{All-head, All-tail}
use Rattle.std.proofs.lemmas.List.Sums.{sum_by-append, sum_by-cons}
use Rattle.rv_files.specs.Cells.{cells_from, cells_of}
use Rattle.rv_files.specs.Hex.{Record, Stretch, bytes_of_record, checksum, record_text, upper_of, upper_records, upper_after, data_record, data_records, start_record, end_record, stretches, stretches_of, row_count, hex_records, hex_text}
use Rattle.rv_files.specs.HexLoading.{IsRow, AreRows, number_of, loaded, start_of, is_ended, Loads}
use Rattle.rv_files.specs.Segments.{Segment, AreBytes, HoldBytes}
use Rattle.rv_files.proofs.Bytes.{bytes_none, bytes_cons, bytes_append, bytes_take, bytes_drop}
use Rattle.rv_files.proofs.LoadedCells.{cells_of_stretches, cells_same, cells_cut}

-- Rows

sum_more : (xs : List ℕ) (c : ℕ) → sum (xs ++ c ∷ []) ≡ sum xs + c
sum_more xs c = omega (arith, sum_by-append (λ x. x) xs (c ∷ []), sum_by-cons (λ x. x) c [])

-- the bytes of a record are bytes
abbrev IsSound : Record → Type 0
IsSound r = AreBytes (bytes_of_record r)

abbrev AreSound : List Record → Type 0
AreSound [] = Unit {0}
AreSound (r ∷ later) = IsSound r × AreSound later

is_row : (r : Record) → IsSound r → IsRow (record_text r) r
is_row r sound = record {
  check = checksum (bytes_of_record r);
  text = refl;
  bytes = bytes_append (bytes_of_record r) (checksum (bytes_of_record r) ∷ []) sound (bytes_cons (checksum (bytes_of_record r)) [] (omega arith) bytes_none);
  balanced = omega (arith, sum_more (bytes_of_record r) (checksum (bytes_of_record r)));
}

are_rows : (rs : List Record) → AreSound rs → AreRows (flat_map record_text rs) rs
are_rows [] sound = refl
are_rows (r ∷ rs) sound = (record_text r, flat_map record_text rs, refl, is_row r sound.0, are_rows rs sound.1)

-- Sound records

sound_record : (kind offset : ℕ) (content : List ℕ) → kind < 256 → offset < 2 ^ 16 → length content < 256 → AreBytes content → IsSound (record { kind = kind; offset = offset; content = content })
sound_record kind offset content k o few bytes =
    bytes_cons (length content) (offset / 256 ∷ offset % 256 ∷ kind ∷ content) few
    (bytes_cons (offset / 256) (offset % 256 ∷ kind ∷ content) (omega (arith, o))
    (bytes_cons (offset % 256) (kind ∷ content) (omega arith) (bytes_cons kind content k bytes)))

sound_append : (xs ys : List Record) → AreSound xs → AreSound ys → AreSound (xs ++ ys)
sound_append [] ys a b = b
sound_append (x ∷ xs) ys a b = (a.0, sound_append xs ys a.1 b)

sound_upper : (before after : ℕ) → after < 2 ^ 16 → AreSound (upper_records before after)
sound_upper before after within = at (nat_eq before after)
  where
    at : (same : Bool) → AreSound (if same then [] else record { kind = 4; offset = 0; content = after / 256 ∷ after % 256 ∷ [] } ∷ [])
    at true = tt
    at false = (
      sound_record 4 0 (after / 256 ∷ after % 256 ∷ []) (omega arith) (omega arith) (omega arith)
          (bytes_cons (after / 256) (after % 256 ∷ []) (omega (arith, within)) (bytes_cons (after % 256) [] (omega arith) bytes_none)),
      tt,
    )

-- at most sixteen bytes each
abbrev AreShort : List Stretch → Type 0
AreShort [] = Unit {0}
AreShort (s ∷ later) = (length s.bytes ≤ 16) × AreBytes s.bytes × AreShort later

short_append : (xs ys : List Stretch) → AreShort xs → AreShort ys → AreShort (xs ++ ys)
short_append [] ys a b = b
short_append (x ∷ xs) ys a b = (a.0, a.1, short_append xs ys a.2 b)

short_stretches : (n address : ℕ) (bytes : List ℕ) → AreBytes bytes → AreShort (stretches address bytes n)
short_stretches zero address bytes h = tt
short_stretches (suc n) address bytes h =
    (omega (arith, length-take 16 bytes), bytes_take 16 bytes h, short_stretches n ((address + 16) % 2 ^ 32) (drop 16 bytes) (bytes_drop 16 bytes h))

short_cut : (segments : List Segment) → HoldBytes segments → AreShort (flat_map stretches_of segments)
short_cut [] h = tt
short_cut (s ∷ later) h =
    short_append (stretches_of s) (flat_map stretches_of later)
    (short_stretches (row_count (length s.bytes)) s.address s.bytes (All-head (λ x. AreBytes x.bytes) s later h))
    (short_cut later (All-tail (λ x. AreBytes x.bytes) s later h))

sound_data : (upper : ℕ) (ss : List Stretch) → AreShort ss → AreSound (data_records upper ss)
sound_data upper [] short = tt
sound_data upper (s ∷ later) short =
    sound_append (upper_records upper (upper_of s.address)) (data_record s ∷ data_records (upper_of s.address) later)
    (sound_upper upper (upper_of s.address) (omega arith))
    (sound_record 0 (s.address % 2 ^ 16) s.bytes (omega arith) (omega arith) (omega (arith, short.0)) short.1, sound_data (upper_of s.address) later short.2)

sound_end : (entry : ℕ) → entry < 2 ^ 32 → AreSound (start_record entry ∷ end_record ∷ [])
sound_end entry within = (
  sound_record 5 0 (entry / 2 ^ 24 ∷ entry / 2 ^ 16 % 256 ∷ entry / 2 ^ 8 % 256 ∷ entry % 256 ∷ []) (omega arith) (omega arith) (omega arith)
      (bytes_cons (entry / 2 ^ 24) (entry / 2 ^ 16 % 256 ∷ entry / 2 ^ 8 % 256 ∷ entry % 256 ∷ []) (omega (arith, within))
      (bytes_cons (entry / 2 ^ 16 % 256) (entry / 2 ^ 8 % 256 ∷ entry % 256 ∷ []) (omega arith)
      (bytes_cons (entry / 2 ^ 8 % 256) (entry % 256 ∷ []) (omega arith) (bytes_cons (entry % 256) [] (omega arith) bytes_none)))),
  (sound_record 1 0 [] (omega arith) (omega arith) (omega arith) bytes_none, tt),
)

sound_hex : (segments : List Segment) (entry : ℕ) → HoldBytes segments → entry < 2 ^ 32 → AreSound (hex_records segments entry)
sound_hex segments entry hold within =
    sound_append (data_records 0 (flat_map stretches_of segments)) (start_record entry ∷ end_record ∷ [])
    (sound_data 0 (flat_map stretches_of segments) (short_cut segments hold)) (sound_end entry within)

-- Memory

loaded_upper : (before after : ℕ) (rest : List Record) → after < 2 ^ 16 → loaded before (upper_records before after ++ rest) ≡ loaded after rest
loaded_upper before after rest within = at (nat_eq before after) refl
  where
    at : (same : Bool) → nat_eq before after ≡ same → loaded before ((if same then [] else record { kind = 4; offset = 0; content = after / 256 ∷ after % 256 ∷ [] } ∷ []) ++ rest) ≡ loaded after rest
    at true e = let equal : before ≡ after = grind (arith, nat_tests, e) in ap (λ n. loaded n rest) equal
    at false e =
        let number : number_of (after / 256 ∷ after % 256 ∷ []) ≡ after = omega (arith, within) in
        ap (λ n. loaded n rest) number

loaded_data : (upper : ℕ) (ss : List Stretch) (tail : List Record) → loaded upper (data_records upper ss ++ tail) ≡ cells_of_stretches ss ++ loaded (upper_after upper ss) tail
loaded_data upper [] tail = refl
loaded_data upper (s ∷ later) tail =
    let after = upper_of s.address in
    let records = data_records after later in
    let place : (2 ^ 16 * after + s.address % 2 ^ 16) % 2 ^ 32 ≡ s.address % 2 ^ 32 = omega arith in
    ap (loaded upper) (append_assoc (upper_records upper after) (data_record s ∷ records) tail)
    ∙ loaded_upper upper after (data_record s ∷ (records ++ tail)) (omega arith)
    ∙ ap (λ l. l ++ loaded after (records ++ tail)) (cells_same (2 ^ 16 * after + s.address % 2 ^ 16) s.address s.bytes place)
    ∙ ap (λ l. cells_from s.address s.bytes ++ l) (loaded_data after later tail)
    ∙ sym (append_assoc (cells_from s.address s.bytes) (cells_of_stretches later) (loaded (upper_after after later) tail))

loaded_hex : (segments : List Segment) (entry : ℕ) → loaded 0 (hex_records segments entry) ≡ cells_of segments
loaded_hex segments entry =
    loaded_data 0 (flat_map stretches_of segments) (start_record entry ∷ end_record ∷ [])
    ∙ append-nil (cells_of_stretches (flat_map stretches_of segments))
    ∙ cells_cut segments

-- The start

start_upper : (before after : ℕ) (rest : List Record) → start_of (upper_records before after ++ rest) ≡ start_of rest
start_upper before after rest = at (nat_eq before after)
  where
    at : (same : Bool) → start_of ((if same then [] else record { kind = 4; offset = 0; content = after / 256 ∷ after % 256 ∷ [] } ∷ []) ++ rest) ≡ start_of rest
    at true = refl
    at false = refl

start_data : (upper : ℕ) (ss : List Stretch) (tail : List Record) → start_of (data_records upper ss ++ tail) ≡ start_of tail
start_data upper [] tail = refl
start_data upper (s ∷ later) tail =
    let after = upper_of s.address in
    ap start_of (append_assoc (upper_records upper after) (data_record s ∷ data_records after later) tail)
    ∙ start_upper upper after (data_record s ∷ (data_records after later ++ tail))
    ∙ start_data after later tail

start_hex : (segments : List Segment) (entry : ℕ) → entry < 2 ^ 32 → start_of (hex_records segments entry) ≡ Some entry
start_hex segments entry within =
    let number : number_of (entry / 2 ^ 24 ∷ entry / 2 ^ 16 % 256 ∷ entry / 2 ^ 8 % 256 ∷ entry % 256 ∷ []) ≡ entry = omega (arith, within) in
    start_data 0 (flat_map stretches_of segments) (start_record entry ∷ end_record ∷ []) ∙ ap (λ n. Some n) number

-- The end

ended_upper : (before after : ℕ) (rest : List Record) → is_ended (upper_records before after ++ rest) ≡ is_ended rest
ended_upper before after rest = at (nat_eq before after)
  where
    at : (same : Bool) → is_ended ((if same then [] else record { kind = 4; offset = 0; content = after / 256 ∷ after % 256 ∷ [] } ∷ []) ++ rest) ≡ is_ended rest
    at true = refl
    at false = refl

ended_data : (upper : ℕ) (ss : List Stretch) (tail : List Record) → is_ended (data_records upper ss ++ tail) ≡ is_ended tail
ended_data upper [] tail = refl
ended_data upper (s ∷ later) tail =
    let after = upper_of s.address in
    ap is_ended (append_assoc (upper_records upper after) (data_record s ∷ data_records after later) tail)
    ∙ ended_upper upper after (data_record s ∷ (data_records after later ++ tail))
    ∙ ended_data after later tail

pub hex_loads : (segments : List Segment) (entry : ℕ) → HoldBytes segments → entry < 2 ^ 32 → Loads (hex_text segments entry) (cells_of segments) entry
unfolding hex_text
hex_loads segments entry hold within = record {
  records = hex_records segments entry;
  rows = are_rows (hex_records segments entry) (sound_hex segments entry hold within);
  ended = ended_data 0 (flat_map stretches_of segments) (start_record entry ∷ end_record ∷ []);
  memory = loaded_hex segments entry;
  start = start_hex segments entry within;
}
