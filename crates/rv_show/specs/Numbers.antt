-- Numbers in messages.
use Rattle.std.specs.Prelude.{ℕ, ℤ, pos, int_lt, unsigned_abs, nat_lt, true, List, [], ◌++◌, codes, decimal, if◌then◌else◌}
use Rattle.std.specs.Fmt.{digits, signed_decimal}
use Rattle.rv_show.specs.declared.numbers.Notation.{Notation}
use Rattle.rv_show.specs.declared.numbers.Notation.TheVariants.{Decimal, Hexadecimal}

-- a number in hexadecimal: one below ten is its digit alone
unfoldable pub hexadecimal : ℕ → List ℕ
hexadecimal n = if nat_lt n 10 then decimal n else codes "0x" ++ digits 16 true n

abbrev pub minus : ℤ → List ℕ
minus n = if int_lt n (pos 0) then codes "-" else []

abbrev pub number_text : Notation → ℤ → List ℕ
number_text Decimal n = signed_decimal n
number_text Hexadecimal n = minus n ++ hexadecimal (unsigned_abs n)
