-- What a loader puts into memory.
use Rattle.std.specs.Prelude.{ℕ, ◌+◌, ◌%◌, ◌^◌, List, [], ◌∷◌}
use Rattle.std.specs.List.{flat_map}
use Rattle.rv_files.specs.Segments.{Segment}

-- a byte at an address
pub record Cell : Type 0 where
  pub address : ℕ
  pub byte : ℕ

-- bytes at the addresses from one on, which are counted modulo 2^32
abbrev pub cells_from : (address : ℕ) → List ℕ → List Cell
cells_from address [] = []
cells_from address (byte ∷ bytes) = record { address = address % 2 ^ 32; byte = byte } ∷ cells_from (address + 1) bytes

-- the bytes of segments at their addresses
abbrev pub cells_of : List Segment → List Cell
cells_of segments = flat_map (λ s. cells_from s.address s.bytes) segments
