-- Rounding up to a multiple.
use Rattle.std.specs.Prelude.{ℕ, ◌+◌, ◌-◌, ◌%◌}

-- how far x lies below the least multiple of k that is not below it
abbrev pub padding : ℕ → ℕ → ℕ
padding x k = (k - x % k) % k

-- the least multiple of k that is not below x
abbrev pub round_up : ℕ → ℕ → ℕ
round_up x k = x + padding x k
