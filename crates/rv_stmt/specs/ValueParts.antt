-- The parts of values that instructions hold. (docs/LANGUAGE.md, Instructions)
use Rattle.std.specs.Prelude.{ℕ, ℤ, pos, ◌+ℤ◌, ◌-ℤ◌, ◌/◌, ◌%◌, ◌^◌, unsigned_abs}
use Rattle.std.specs.Int.{int_rem_euclid, cast_signed, w32}

-- modulo 2 ^ 32
abbrev pub word_bits : ℤ → ℕ
word_bits v = unsigned_abs (int_rem_euclid v (pos (2 ^ 32)))

-- modulo 2 ^ 32, with a sign
abbrev pub signed_word : ℤ → ℤ
signed_word v = cast_signed w32 (word_bits v)

-- the upper 20 bits that with the lower part give the value, modulo 2 ^ 32. As the lower part has a sign, this one is one
-- more where bit 11 is 1. (RISC-V Unprivileged ISA 20191213, section 2.4)
abbrev pub high_part : ℤ → ℤ
high_part v = pos (word_bits (v +ℤ pos 0x800) / 2 ^ 12)

-- the lower 12 bits, with a sign
abbrev pub low_part : ℤ → ℤ
low_part v = pos (word_bits (v +ℤ pos 0x800) % 2 ^ 12) -ℤ pos 0x800
