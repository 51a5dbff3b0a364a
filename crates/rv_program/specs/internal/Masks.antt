-- Masks: which names lines use and define, by the buckets of the names, and which kinds of line they are, in four times 64 bits.
use Rattle.std.specs.Prelude.{ℕ, ◌<◌, ◌-◌, ◌/◌, ◌%◌, ◌^◌, ◌==◌, Bool, if◌then◌else◌}
use Rattle.std.specs.Int.{bit_at}
use Rattle.std.specs.Int.Bits.{bit_and, bit_or}
use Rattle.rv_program.specs.declared.mask.Kind.{Kind}
use Rattle.rv_program.specs.declared.mask.Kind.TheVariants.{Equ, PcrelHigh, Shaped, Addressed, Uncompared}
use Rattle.rv_program.specs.declared.mask.Mask.{Mask}

abbrev pub mask : (first second third fourth : ℕ) → Mask
mask first second third fourth = record { first = first; second = second; third = third; fourth = fourth }

abbrev pub IsMask : Mask → Type 0
IsMask m = (m.first < 2 ^ 64) × (m.second < 2 ^ 64) × (m.third < 2 ^ 64) × (m.fourth < 2 ^ 64)

abbrev pub no_mask : Mask
no_mask = mask 0 0 0 0

-- what the one or the other has
abbrev pub both_masks : Mask → Mask → Mask
both_masks x y = mask (bit_or x.first y.first) (bit_or x.second y.second) (bit_or x.third y.third) (bit_or x.fourth y.fourth)

-- what two masks share, in any part
abbrev pub shared : Mask → Mask → ℕ
shared x y = bit_or (bit_or (bit_and x.first y.first) (bit_and x.second y.second)) (bit_or (bit_and x.third y.third) (bit_and x.fourth y.fourth))

-- Names: a bucket has one of the first 59 bits of one of the parts

-- from 0 to 3
abbrev pub part_of : (bucket : ℕ) → ℕ
part_of bucket = bucket / 59 % 4

abbrev pub part_at : Mask → (part : ℕ) → ℕ
part_at m part = if part == 0 then m.first else (if part == 1 then m.second else (if part == 2 then m.third else m.fourth))

abbrev pub mask_in : (part bits : ℕ) → Mask
mask_in part bits = if part == 0 then mask bits 0 0 0 else (if part == 1 then mask 0 bits 0 0 else (if part == 2 then mask 0 0 bits 0 else mask 0 0 0 bits))

abbrev pub mask_of_bucket : (bucket : ℕ) → Mask
mask_of_bucket bucket = mask_in (part_of bucket) (2 ^ (bucket % 59))

-- the buckets that leave these remainders by 59
abbrev pub mask_of_remainders : (remainders : ℕ) → Mask
mask_of_remainders remainders = mask remainders remainders remainders remainders

abbrev pub all_names : Mask
all_names = mask_of_remainders (2 ^ 59 - 1)

-- a name of the bucket may be used or defined there
abbrev pub has_name : Mask → (bucket : ℕ) → Bool
has_name m bucket = bit_at (part_at m (part_of bucket)) (bucket % 59) == 1

-- Kinds of line: they have the last bits of the first part

abbrev pub kind_bit : Kind → ℕ
kind_bit Equ = 59
kind_bit PcrelHigh = 60
kind_bit Shaped = 61
kind_bit Addressed = 62
kind_bit Uncompared = 63

abbrev pub mask_of_kind : Kind → Mask
mask_of_kind kind = mask (2 ^ kind_bit kind) 0 0 0

-- with a kind, for lines that are of it
abbrev pub with_kind : Mask → Kind → (is : Bool) → Mask
with_kind m kind is = if is then both_masks m (mask_of_kind kind) else m

-- a line of the kind may be there
abbrev pub has_kind : Mask → Kind → Bool
has_kind m kind = bit_at m.first (kind_bit kind) == 1
