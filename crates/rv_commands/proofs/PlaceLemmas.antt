-- How great the number of a line can be.
use Rattle.std.proofs.Common.{◌≡◌, ℕ, ◌^◌, ◌<◌, ◌≤◌, true, false, Bool, nat_lt, List, [], ◌∷◌, length, arith, refl, Some, ℤ, pos}
use Rattle.std.specs.Option.{option_map}
use Rattle.std.specs.Char.{is_digit}
use Rattle.std.specs.List.{list_all}
use Rattle.std.specs.Str.Parse.{AllDigits, digits_value}
use Rattle.std.proofs.Math.Nat.{pow-le-pow_right}
use Rattle.std.proofs.lemmas.Bool.Decides.{nat_tests}
use Rattle.std.proofs.lemmas.Grind.{common_steps}
use Rattle.std.proofs.lemmas.Int.Digits.{digits_value-lt}
use Rattle.rv_text.specs.Numbers.{digits_number}
use Rattle.rv_commands.specs.Commands.{place_of}

all_digits : (cs : List ℕ) → list_all (λ c. is_digit c 10) cs ≡ true → AllDigits 10 cs
all_digits [] e = tt
all_digits (c ∷ cs) e = (grind (arith, nat_tests), all_digits cs (grind (arith, nat_tests)))

-- with nine digits at most a number fits
pub place_fits : (cs : List ℕ) → list_all (λ c. is_digit c 10) cs ≡ true → length cs ≤ 9 → digits_value 10 cs < 1000000000
place_fits cs e few =
    let small = digits_value-lt 10 cs (all_digits cs e) in
    let most : 10 ^ length cs ≤ 10 ^ 9 = pow-le-pow_right {n = 10} (omega arith) {i = length cs} {j = 9} few in
    omega (arith, small, most)

-- what nine digits at most spell is the number of a line
pub place_spelled : (cs : List ℕ) (z : ℤ) → length cs ≤ 9 → option_map pos (digits_number 10 cs) ≡ Some z → (n : ℕ) × (z ≡ pos n) × (n < 1000000000) × (place_of cs ≡ Some n)
place_spelled [] z few e = absurd (grind (arith, common_steps, e))
place_spelled (c ∷ cs) z few e = by_test (list_all (λ b. is_digit b 10) (c ∷ cs)) (nat_lt (digits_value 10 (c ∷ cs)) (2 ^ 63)) refl refl where
  by_test : (all low : Bool) → list_all (λ b. is_digit b 10) (c ∷ cs) ≡ all → nat_lt (digits_value 10 (c ∷ cs)) (2 ^ 63) ≡ low → (n : ℕ) × (z ≡ pos n) × (n < 1000000000) × (place_of (c ∷ cs) ≡ Some n)
  by_test false low a b = absurd (grind (arith, common_steps, e, a, b))
  by_test true false a b = absurd (grind (arith, common_steps, e, a, b))
  by_test true true a b = (digits_value 10 (c ∷ cs), grind (arith, common_steps, e, a, b), place_fits (c ∷ cs) a few, grind (arith, common_steps, nat_tests, a, b, few))
