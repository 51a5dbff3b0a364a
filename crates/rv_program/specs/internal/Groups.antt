-- Groups of the buckets of names, of which there are 59: the remainders of their numbers.
use Rattle.std.specs.Prelude.{ℕ, ◌+◌, ◌*◌, ◌/◌, ◌%◌, ◌^◌, ◌==◌, Bool}
use Rattle.std.specs.Int.{bit_at}
use Rattle.std.specs.Int.Bits.{bit_or}
use Rattle.rv_program.specs.declared.groups.Groups.{Groups}

abbrev pub bits_of : Groups → ℕ
bits_of groups = groups.high * 2 ^ 32 + groups.low

abbrev pub groups_of : (bits : ℕ) → Groups
groups_of bits = record { low = bits % 2 ^ 32; high = bits / 2 ^ 32 % 2 ^ 32 }

abbrev pub no_groups : Groups
no_groups = record { low = 0; high = 0 }

abbrev pub with_bit : Groups → (bit : ℕ) → Groups
with_bit groups bit = groups_of (bit_or (bits_of groups) (2 ^ bit))

abbrev pub has_bit : Groups → (bit : ℕ) → Bool
has_bit groups bit = bit_at (bits_of groups) bit == 1

-- the group of a bucket
abbrev pub with_group : Groups → (bucket : ℕ) → Groups
with_group groups bucket = with_bit groups (bucket % 59)

abbrev pub has_group : Groups → (bucket : ℕ) → Bool
has_group groups bucket = has_bit groups (bucket % 59)
