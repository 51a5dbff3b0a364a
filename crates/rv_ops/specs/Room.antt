-- How much of an encoding its slices can fill, by which it is seen to stay within its bits.
use Rattle.std.specs.Prelude.{ℕ, ◌+◌, ◌-◌, ◌*◌, ◌^◌, Bool, List, [], ◌∷◌, nat_le, ◌&&◌}
use Rattle.rv_ops.specs.declared.layouts.FieldSlice.{FieldSlice}

-- a slice is within the 32 bits of its field and of the encoding
abbrev pub is_slice : FieldSlice → Bool
is_slice s =
    nat_le (s.field_bit + s.width) 32 && (nat_le (s.width + s.word_bit) 32 && (nat_le 1 s.width && nat_le s.width 31))

-- the greatest number that a slice is in the encoding
abbrev pub most : FieldSlice → ℕ
most s = 2 ^ s.width * 2 ^ s.word_bit - 2 ^ s.word_bit

-- what the greatest numbers of some slices add up to
abbrev pub room : List FieldSlice → ℕ
room [] = 0
room (s ∷ ss) = most s + room ss
