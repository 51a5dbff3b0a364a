-- What a loader of Intel HEX puts into memory. (Intel, Hexadecimal Object File Format Specification, revision A, 1988)
use Rattle.std.specs.Prelude.{◌≡◌, ℕ, ◌+◌, ◌*◌, ◌%◌, ◌^◌, ◌==◌, Bool, true, false, List, [], ◌∷◌, ◌++◌, Option, Some, None, if◌then◌else◌}
use Rattle.std.specs.List.{sum, fold}
use Rattle.rv_files.specs.Cells.{Cell, cells_from}
use Rattle.rv_files.specs.Hex.{Record, bytes_of_record, row_text}
use Rattle.rv_files.specs.Lines.{is_empty}
use Rattle.rv_files.specs.Segments.{AreBytes}

-- A row is that of a record: a colon, the digits of the record's bytes and of one more, with which their sum is 0 modulo 256.
pub record IsRow (row : List ℕ) (r : Record) : Type 0 where
  pub check : ℕ
  pub text : row ≡ row_text (bytes_of_record r ++ check ∷ [])
  pub bytes : AreBytes (bytes_of_record r ++ check ∷ [])
  pub balanced : sum (bytes_of_record r ++ check ∷ []) % 256 ≡ 0

-- a text is the rows of these records
abbrev pub AreRows : (text : List ℕ) → List Record → Type 0
AreRows text [] = text ≡ []
AreRows text (r ∷ later) = (row : List ℕ) × (rest : List ℕ) × (text ≡ row ++ rest) × IsRow row r × AreRows rest later

-- the number that some bytes are, the highest first
abbrev pub number_of : List ℕ → ℕ
number_of bytes = fold (λ n byte. 256 * n + byte) 0 bytes

-- What records put into memory, where the addresses have these upper 16 bits at first: data at their address, which is counted
-- modulo 2^32; type 4 gives new upper bits; type 1 is the end, and the others put nothing.
abbrev pub loaded : (upper : ℕ) → List Record → List Cell
loaded upper [] = []
loaded upper (r ∷ later) =
    if r.kind == 0 then cells_from (2 ^ 16 * upper + r.offset) r.content ++ loaded upper later
    else (if r.kind == 4 then loaded (number_of r.content) later
    else (if r.kind == 1 then [] else loaded upper later))

-- the address at which the program starts, by the first record of type 5
abbrev pub start_of : List Record → Option ℕ
start_of [] = None
start_of (r ∷ later) = if r.kind == 5 then Some (number_of r.content) else start_of later

-- the record of type 1 is the last, and no other is of this type
abbrev pub is_ended : List Record → Bool
is_ended [] = false
is_ended (r ∷ later) = if r.kind == 1 then is_empty later else is_ended later

-- A loader of the text puts these bytes into memory, and starts at this address.
pub record Loads (text : List ℕ) (cells : List Cell) (entry : ℕ) : Type 0 where
  pub records : List Record
  pub rows : AreRows text records
  pub ended : is_ended records ≡ true
  pub memory : loaded 0 records ≡ cells
  pub start : start_of records ≡ Some entry
