-- The texts of numbers are read as these.
use Rattle.std.proofs.Common.{◌≡◌, ℕ, zero, suc, ◌+◌, ◌*◌, ◌/◌, ◌%◌, ◌^◌, ◌<◌, true, false, List, [], ◌∷◌, ◌++◌, length, get_or, Some, refl, ap, ◌∙◌, arith, lt-ltb, length-append}
use Rattle.std.specs.Prelude.{◌==◌, decimal, codes}
use Rattle.std.specs.Fmt.{digits}
use Rattle.std.specs.List.{list_all}
use Rattle.std.specs.Char.{is_digit, digit_value}
use Rattle.std.specs.Str.Parse.{AllDigits, IsNumeral, digits_value, digits_value_after}
use Rattle.std.proofs.lemmas.Bool.{cond-false}
use Rattle.std.proofs.Math.Nat.{pow-suc}
use Rattle.std.proofs.lemmas.Bool.Decides.{nat_tests}
use Rattle.std.proofs.lemmas.Fmt.{digits_is_IsNumeral, decimal_is_IsNumeral, first_decimal}
use Rattle.rv_text.specs.Numbers.{number_of, digits_number}
use Rattle.rv_text.specs.Rows.{hex, hex_digit}

all_digits : (base : ℕ) (cs : List ℕ) → AllDigits base cs → list_all (λ c. is_digit c base) cs ≡ true
all_digits base [] h = refl
all_digits base (c ∷ cs) h = rw (lt-ltb (digit_value c) base h.0, all_digits base cs h.1) refl

-- digits are read as their value
pub digits_read : (base n : ℕ) (cs : List ℕ) → IsNumeral base cs → digits_value base cs ≡ n → n < 2 ^ 63 → digits_number base cs ≡ Some n
digits_read base n [] h e small = absurd (omega (arith, h.0))
digits_read base n (c ∷ cs) h e small =
    let below : digits_value_after base 0 (c ∷ cs) < 2 ^ 63 = omega arith in
    rw (all_digits base (c ∷ cs) h.1, lt-ltb (digits_value_after base 0 (c ∷ cs)) (2 ^ 63) below) (ap Some e)

more_no_zero : (c : ℕ) → 48 < c → c == 0x30 ≡ false
more_no_zero c h = grind (arith, nat_tests)

number_digits : (n : ℕ) (cs : List ℕ) → IsNumeral 10 cs → digits_value 10 cs ≡ n → 48 < get_or cs 0 0 → n < 2 ^ 63 → number_of cs ≡ Some n
number_digits n [] h e first small = absurd (omega (arith, h.0))
number_digits n (c ∷ cs) h e first small =
    let other : c == 0x30 ≡ false = more_no_zero c first in
    cond-false (c == 0x30) _ _ other ∙ digits_read 10 n (c ∷ cs) h e small

number_decimal_more : (n : ℕ) → 0 < n → n < 2 ^ 63 → number_of (decimal n) ≡ Some n
number_decimal_more n some small =
    let is = decimal_is_IsNumeral n (omega arith) in
    number_digits n (decimal n) is.0 is.1 (first_decimal n some (omega arith)) small

-- a number in decimal digits
pub number_decimal : (n : ℕ) → n < 2 ^ 63 → number_of (decimal n) ≡ Some n
unfolding digits
number_decimal zero small = refl
number_decimal (suc n) small = number_decimal_more (suc n) (omega arith) small

-- `0x` and hexadecimal digits
pub number_hexadecimal : (n : ℕ) → n < 2 ^ 63 → number_of (codes "0x" ++ digits 16 false n) ≡ Some n
number_hexadecimal n small =
    let is = digits_is_IsNumeral 16 false (omega arith) (omega arith) n (omega arith) in
    digits_read 16 n (digits 16 false n) is.0 is.1 small

digit_value-hex_digit : (d : ℕ) → d < 16 → digit_value (hex_digit d) ≡ d
digit_value-hex_digit d h = grind (arith, nat_tests)

all_digits_and : (base c : ℕ) (cs : List ℕ) → AllDigits base cs → digit_value c < base → AllDigits base (cs ++ c ∷ [])
all_digits_and base c [] h d = (d, tt)
all_digits_and base c (x ∷ cs) h d = (h.0, all_digits_and base c cs h.1 d)

value_and : (base n c : ℕ) (cs : List ℕ) → digits_value_after base n (cs ++ c ∷ []) ≡ digits_value_after base n cs * base + digit_value c
value_and base n c [] = refl
value_and base n c (x ∷ cs) = value_and base (n * base + digit_value x) c cs

hex_all_digits : (k n : ℕ) → AllDigits 16 (hex k n)
unfolding hex
hex_all_digits zero n = tt
hex_all_digits (suc k) n =
    let d = digit_value-hex_digit (n % 16) (omega arith) in
    all_digits_and 16 (hex_digit (n % 16)) (hex k (n / 16)) (hex_all_digits k (n / 16)) (omega arith)

hex_value : (k n : ℕ) → n < 16 ^ k → digits_value 16 (hex k n) ≡ n
unfolding hex
hex_value zero n h = omega arith
hex_value (suc k) n h =
    let d = digit_value-hex_digit (n % 16) (omega arith) in
    let power : 16 ^ suc k ≡ 16 ^ k * 16 = pow-suc 16 k in
    let more = hex_value k (n / 16) (omega arith) in
    value_and 16 0 (hex_digit (n % 16)) (hex k (n / 16)) ∙ omega arith

hex_some : (k n : ℕ) → 0 < k → 0 < length (hex k n)
unfolding hex
hex_some zero n h = absurd (omega arith)
hex_some (suc k) n h = simp length-append (omega arith)

-- `0x` and so many hexadecimal digits
pub number_hex : (k n : ℕ) → 0 < k → n < 16 ^ k → n < 2 ^ 63 → number_of (codes "0x" ++ hex k n) ≡ Some n
number_hex k n some fits small =
    digits_read 16 n (hex k n) (hex_some k n some, hex_all_digits k n) (hex_value k n fits) small
