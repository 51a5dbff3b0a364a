-- Frames: a header that says how long the body is, an empty line, and the body. (Language Server Protocol 3.17, Base Protocol)
use Rattle.std.specs.Prelude.{◌≡◌, ℕ, ◌+◌, ◌-◌, ◌^◌, ◌≤◌, ◌<◌, ◌==◌, ◌&&◌, nat_le, nat_lt, Bool, List, [], ◌∷◌, ◌++◌, length, take, drop, codes, Option, Some, None, if◌then◌else◌}
use Rattle.std.specs.Char.{is_ascii_whitespace}
use Rattle.std.specs.List.{prefix_len, suffix_len}
use Rattle.std.specs.Option.{option_and_then}
use Rattle.std.specs.Str.{str_eq_ignore_ascii_case}
use Rattle.memchr.specs.Find.{FindsNeedle}
use Rattle.rv_text.specs.Numbers.{digits_number}
use Rattle.rv_doc.specs.declared.frame.Frame.{Frame}
use Rattle.rv_doc.specs.declared.frame.Frame.TheVariants.{More, Bad, Body}
use Rattle.rv_doc.specs.declared.frame.TheConstants.{MAX_BODY, MAX_HEADER}

-- what ends a row of a header, and the header
abbrev pub row_end : List ℕ
row_end = 0x0D ∷ (0x0A ∷ [])

abbrev pub header_end : List ℕ
header_end = 0x0D ∷ (0x0A ∷ (0x0D ∷ (0x0A ∷ [])))

-- bytes without the white space before and after them
abbrev pub without_front : List ℕ → List ℕ
without_front bytes = drop (prefix_len is_ascii_whitespace bytes) bytes

abbrev pub trimmed : List ℕ → List ℕ
trimmed bytes = take (length (without_front bytes) - suffix_len is_ascii_whitespace (without_front bytes)) (without_front bytes)

-- a row is the field of the length, in either letter case
abbrev pub is_length_field : (row : List ℕ) → Bool
is_length_field row = nat_le 15 (length row) && str_eq_ignore_ascii_case (codes "content-length:") (take 15 row)

-- the number that decimal digits spell, of 32 bits
abbrev pub number_of : (digits : List ℕ) → Option ℕ
number_of digits = option_and_then (λ n. if nat_lt n (2 ^ 32) then Some n else None) (digits_number 10 digits)

-- the length in it, which is at most that of a body
abbrev pub length_in : (row : List ℕ) → Option ℕ
length_in row = option_and_then (λ n. if nat_le n MAX_BODY then Some n else None) (number_of (trimmed (drop 15 row)))

-- the rows of a header, of which the first one begins with the bytes `row`
abbrev pub rows_from : (row bytes : List ℕ) → List (List ℕ)
rows_from row [] = row ∷ []
rows_from row (b ∷ []) = (row ++ b ∷ []) ∷ []
rows_from row (b ∷ (c ∷ bytes)) = if b == 0x0D && c == 0x0A then row ∷ rows_from [] bytes else rows_from (row ++ b ∷ []) (c ∷ bytes)

-- the length in the first row that is the field of it
abbrev pub first_length : (rows : List (List ℕ)) → Option ℕ
first_length [] = None
first_length (row ∷ rows) = if is_length_field row then length_in row else first_length rows

abbrev pub length_of : (header : List ℕ) → Option ℕ
length_of header = first_length (rows_from [] header)

-- a body of a length, after so many bytes, of which there are so many
abbrev pub body_of : (start count : ℕ) → Option ℕ → Frame
body_of start count None = Bad
body_of start count (Some length) = if nat_lt (count - start) length then More else Body start (start + length)

-- the frame at the front of some bytes, whose header ends after so many, or not yet
abbrev pub frame_by : (bytes : List ℕ) → (end : Option ℕ) → Frame
frame_by bytes None = if nat_le (MAX_HEADER + 4) (length bytes) then Bad else More
frame_by bytes (Some end) = if nat_lt MAX_HEADER end then Bad else body_of (end + 4) (length bytes) (length_of (take end bytes))

-- The header ends at the first empty line.
pub record IsFrame (frame : Frame) (bytes : List ℕ) : Type 0 where
  pub end : Option ℕ
  pub first : FindsNeedle bytes header_end 0 end
  pub is : frame ≡ frame_by bytes end

-- a body lies within so many bytes, after its header
abbrev pub IsWithin : Frame → (count : ℕ) → Type 0
IsWithin More count = Unit {0}
IsWithin Bad count = Unit {0}
IsWithin (Body start end) count = (0 < start) × (start ≤ end) × (end ≤ count)
