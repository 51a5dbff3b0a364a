-- The limits of a value, and what is wrong with a value outside them.
use Rattle.std.specs.Prelude.{ℤ, ◌≡◌, ◌%◌, ◌≤ℤ◌, ◌<ℤ◌, ◌⊎◌, Bool, ◌&&◌, ◌||◌, Option, Some, None, if◌then◌else◌, nat_eq, int_lt, int_le, unsigned_abs}
use Rattle.rv_ops.specs.declared.value_limits.Limits.{Limits}
use Rattle.rv_ops.specs.declared.value_limits.LimitFault.{LimitFault}
use Rattle.rv_ops.specs.declared.value_limits.LimitFault.TheVariants.{Range, Multiple}

-- the value is in the gap
abbrev pub is_in_gap : Limits → ℤ → Bool
is_in_gap l v = int_le l.gap_first v && int_le v l.gap_last

-- the value is below the least, above the greatest, or in the gap
abbrev pub is_beyond : Limits → ℤ → Bool
is_beyond l v = int_lt v l.least || (int_lt l.greatest v || is_in_gap l v)

-- what is wrong with the value, if anything: it is beyond the limits, or else no multiple
unfoldable pub limit_fault : Limits → ℤ → Option LimitFault
limit_fault l v =
    if is_beyond l v then Some Range else if nat_eq (unsigned_abs v % l.multiple) 0 then None else Some Multiple

-- from the least value to the greatest, a multiple of the number, and not in the gap
pub record InLimits (l : Limits) (v : ℤ) : Type 0 where
  pub low : l.least ≤ℤ v
  pub high : v ≤ℤ l.greatest
  pub multiple : unsigned_abs v % l.multiple ≡ 0
  pub gap : (v <ℤ l.gap_first) ⊎ (l.gap_last <ℤ v)
