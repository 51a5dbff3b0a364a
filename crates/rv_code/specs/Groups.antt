-- Groups of rows of the table. No public contract cites these definitions: they serve the private steps of decoding.
use Rattle.std.specs.Prelude.{ℕ, ◌+◌, ◌-◌, ◌/◌, ◌%◌, Bool, ◌&&◌, nat_le, List, length, map, take, drop, slice_index_or, bit_and}
use Rattle.rv_ops.specs.declared.table.TheConstants.{TABLE}
use Rattle.rv_code.specs.declared.groups.TheConstants.{FULL_GROUPS, HALF_GROUPS}
use Rattle.rv_code.specs.Decoding.{Code, code_of}

-- a group is a range of the table
abbrev pub is_group : ℕ × ℕ → Bool
is_group g = nat_le g.0 g.1 && nat_le g.1 (length TABLE)

-- the operations of the table, with their fixed bits and their masks
unfoldable pub table_codes : List Code
table_codes = map code_of TABLE

-- the operations of a group
abbrev pub codes_of_group : ℕ × ℕ → List Code
codes_of_group g = take (g.1 - g.0) (drop g.0 table_codes)

-- the number of a word's group
abbrev pub full_number : ℕ → ℕ
full_number w = bit_and w 0x7c / 4

abbrev pub half_number : ℕ → ℕ
half_number w = bit_and w 0xe003 / 2048 + bit_and w 0xe003 % 4

abbrev pub full_group : ℕ → ℕ × ℕ
full_group w = slice_index_or FULL_GROUPS (full_number w) (0, 0)

abbrev pub half_group : ℕ → ℕ × ℕ
half_group w = slice_index_or HALF_GROUPS (half_number w) (0, 0)

-- the operations that a word may have
abbrev pub codes_of_full_group : ℕ → List Code
codes_of_full_group w = codes_of_group (full_group w)

abbrev pub codes_of_half_group : ℕ → List Code
codes_of_half_group w = codes_of_group (half_group w)
