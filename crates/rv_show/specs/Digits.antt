-- Digits in upper case.
use Rattle.std.specs.Prelude.{ℕ, ◌+◌, ◌/◌, ◌%◌, nat_lt, List, [], ◌∷◌, if◌then◌else◌}

abbrev pub upper_digit : ℕ → ℕ
upper_digit n = if nat_lt n 10 then 48 + n else 55 + n

abbrev pub upper_hex : ℕ → List ℕ
upper_hex byte = upper_digit (byte / 16) ∷ upper_digit (byte % 16) ∷ []
