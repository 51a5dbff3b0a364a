-- Rows of Intel HEX. (Intel, Hexadecimal Object File Format Specification, revision A, 1988)
use Rattle.std.specs.Prelude.{ℕ, zero, suc, ◌+◌, ◌-◌, ◌/◌, ◌%◌, ◌^◌, ◌==◌, nat_lt, List, [], ◌∷◌, ◌++◌, length, take, drop, codes, if◌then◌else◌}
use Rattle.std.specs.List.{sum, flat_map}
use Rattle.rv_show.specs.Digits.{upper_hex}
use Rattle.rv_files.specs.Segments.{Segment}

-- Rows

-- a stretch of bytes, at the address of the first
pub record Stretch : Type 0 where
  pub address : ℕ
  pub bytes : List ℕ

-- a record: its type, its 16 bits of address, and its data
pub record Record : Type 0 where
  pub kind : ℕ
  pub offset : ℕ
  pub content : List ℕ

-- the bytes of a record: how many data bytes there are, the 16 bits of address, the type, and the data
abbrev pub bytes_of_record : Record → List ℕ
bytes_of_record r = length r.content ∷ r.offset / 256 ∷ r.offset % 256 ∷ r.kind ∷ r.content

-- the byte that makes the sum of all bytes a multiple of 256
abbrev pub checksum : List ℕ → ℕ
checksum bytes = (256 - sum bytes % 256) % 256

-- the row of some bytes: a colon and their digits
unfoldable pub row_text : List ℕ → List ℕ
row_text bytes = codes ":" ++ (flat_map upper_hex bytes ++ codes "\n")

-- the row of a record
abbrev pub record_text : Record → List ℕ
record_text r = row_text (bytes_of_record r ++ checksum (bytes_of_record r) ∷ [])

-- The rows of a file

-- data, at the lower 16 bits of their address
abbrev pub data_record : Stretch → Record
data_record s = record { kind = 0; offset = s.address % 2 ^ 16; content = s.bytes }

-- the upper 16 bits of an address
abbrev pub upper_of : (address : ℕ) → ℕ
upper_of address = address / 2 ^ 16 % 2 ^ 16

-- where the upper 16 bits of the addresses change, the record that says so
abbrev pub upper_records : (before after : ℕ) → List Record
upper_records before after =
    if before == after then [] else record { kind = 4; offset = 0; content = after / 256 ∷ after % 256 ∷ [] } ∷ []

-- the address at which the program starts
abbrev pub start_record : (entry : ℕ) → Record
start_record entry = record {
  kind = 5;
  offset = 0;
  content = entry / 2 ^ 24 ∷ entry / 2 ^ 16 % 256 ∷ entry / 2 ^ 8 % 256 ∷ entry % 256 ∷ [];
}

-- the end of the file
abbrev pub end_record : Record
end_record = record { kind = 1; offset = 0; content = [] }

-- how many rows so many bytes fill, the last perhaps in part
abbrev pub row_count : ℕ → ℕ
row_count size = (size + 15) / 16

-- so many stretches of sixteen bytes, or of what is left; their addresses are counted modulo 2^32
abbrev pub stretches : (address : ℕ) → List ℕ → (count : ℕ) → List Stretch
stretches address bytes zero = []
stretches address bytes (suc count) =
    record { address = address; bytes = take 16 bytes } ∷ stretches ((address + 16) % 2 ^ 32) (drop 16 bytes) count

abbrev pub stretches_of : Segment → List Stretch
stretches_of s = stretches s.address s.bytes (row_count (length s.bytes))

-- the records of some stretches, after records whose addresses had these upper 16 bits
abbrev pub data_records : (upper : ℕ) → List Stretch → List Record
data_records upper [] = []
data_records upper (s ∷ later) =
    upper_records upper (upper_of s.address) ++ (data_record s ∷ data_records (upper_of s.address) later)

-- the upper 16 bits of the addresses after some stretches
abbrev pub upper_after : (upper : ℕ) → List Stretch → ℕ
upper_after upper [] = upper
upper_after upper (s ∷ later) = upper_after (upper_of s.address) later

-- all records of a file
abbrev pub hex_records : List Segment → (entry : ℕ) → List Record
hex_records segments entry =
    data_records 0 (flat_map stretches_of segments) ++ (start_record entry ∷ end_record ∷ [])

-- their rows
unfoldable pub hex_text : List Segment → (entry : ℕ) → List ℕ
hex_text segments entry = flat_map record_text (hex_records segments entry)
