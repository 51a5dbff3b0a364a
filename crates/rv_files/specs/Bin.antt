-- The bytes of segments from an address on. (docs/FILES.md, bin)
use Rattle.std.specs.Prelude.{◌≡◌, ℕ, ◌≤◌, ◌+◌, ◌-◌, ◌==◌, List, [], ◌∷◌, ◌++◌, length, take, drop, replicate, if◌then◌else◌}
use Rattle.rv_files.specs.Segments.{Segment}

-- zeros from the address `at` up to a segment, and then its bytes; nothing where it has no bytes
abbrev pub bytes_up_to : (at : ℕ) → Segment → List ℕ
bytes_up_to at s = if length s.bytes == 0 then [] else replicate (s.address - at) 0 ++ s.bytes

-- the address behind them
abbrev pub end_of : (at : ℕ) → Segment → ℕ
end_of at s = if length s.bytes == 0 then at else s.address + length s.bytes

-- the bytes of segments in ascending order, from the address `at` on
abbrev pub bin_bytes : (at : ℕ) → List Segment → List ℕ
bin_bytes at [] = []
bin_bytes at (s ∷ later) = bytes_up_to at s ++ bin_bytes (end_of at s) later

-- segments in ascending order from the address `at` on, none over another
abbrev pub AreAscending : (at : ℕ) → List Segment → Type 0
AreAscending at [] = Unit {0}
AreAscending at (s ∷ later) = (at ≤ s.address) × AreAscending (s.address + length s.bytes + s.zeros) later

-- among bytes from the address `at` on, those of a segment are at its address
abbrev pub StandsIn : (at : ℕ) → (bytes : List ℕ) → Segment → Type 0
StandsIn at bytes s = take (length s.bytes) (drop (s.address - at) bytes) ≡ s.bytes
