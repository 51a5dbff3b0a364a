-- The bytes of a segment, as they are kept.
use Rattle.std.specs.Prelude.{ℕ, List, All, replicate}
use Rattle.std.specs.List.{flat_map}
use Rattle.rv_files.specs.declared.pieces.Piece.{Piece}
use Rattle.rv_files.specs.declared.pieces.Piece.TheVariants.{Bytes, Repeated}
use Rattle.rv_files.specs.Segments.{AreBytes}

-- bytes one by one, or one byte so many times
abbrev pub bytes_of_piece : Piece → List ℕ
bytes_of_piece (Bytes bytes) = bytes.items
bytes_of_piece (Repeated byte count) = replicate count byte

abbrev pub bytes_of_pieces : List Piece → List ℕ
bytes_of_pieces pieces = flat_map bytes_of_piece pieces

abbrev pub HoldsBytes : List Piece → Type 0
HoldsBytes pieces = All (λ p. AreBytes (bytes_of_piece p)) pieces
