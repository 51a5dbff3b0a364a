-- The bytes of numbers.
use Rattle.std.proofs.Common.{◌≡◌, ℕ, ◌≤◌, Bool, true, false, cond, ◌||◌, List, [], ◌∷◌, Some, None, ⊎_elim, refl, arith}
use Rattle.std.specs.Prelude.{is_some, ◌==◌}
use Rattle.std.specs.Char.{is_digit, is_ascii_digit, is_ascii_alphanumeric}
use Rattle.std.specs.List.{list_all}
use Rattle.std.proofs.lemmas.Bool.{and_parts, and_from, cases_Bool, eqb-true}
use Rattle.std.proofs.lemmas.Bool.Decides.{nat_tests}
use Rattle.rv_text.specs.Bytes.{is_identifier_start}
use Rattle.rv_text.specs.Numbers.{number_of, after_zero, digits_number}

-- bytes
pub digit_no_start : (b : ℕ) → is_ascii_digit b ≡ true → is_identifier_start b ≡ false
digit_no_start b h = grind (arith, nat_tests)

digit_alphanumeric : (base c : ℕ) → base ≤ 16 → is_digit c base ≡ true → is_ascii_alphanumeric c ≡ true
digit_alphanumeric base c low h = grind (arith, nat_tests)

decimal_digit : (c : ℕ) → is_digit c 10 ≡ true → is_ascii_digit c ≡ true
decimal_digit c h = grind (arith, nat_tests)

letter_x : (c : ℕ) → (c == 0x78 || c == 0x58) ≡ true → is_ascii_alphanumeric c ≡ true
letter_x c h = grind (arith, nat_tests)

letter_b : (c : ℕ) → (c == 0x62 || c == 0x42) ≡ true → is_ascii_alphanumeric c ≡ true
letter_b c h = grind (arith, nat_tests)

letter_zero : (c : ℕ) → (c == 0x30) ≡ true → is_ascii_alphanumeric c ≡ true
letter_zero c h = grind (arith, nat_tests)

-- what is some under a test has passed it
some_passed : (t : Bool) (v : ℕ) → is_some (cond t (Some v) None) ≡ true → t ≡ true
some_passed true v h = refl
some_passed false v h = absurd cc

-- numbers and local labels consist of digits and letters
digits_alphanumeric : (base : ℕ) (cs : List ℕ) → base ≤ 16 → list_all (λ c. is_digit c base) cs ≡ true → list_all is_ascii_alphanumeric cs ≡ true
digits_alphanumeric base [] low all = refl
digits_alphanumeric base (c ∷ cs) low all =
    let parts = and_parts (is_digit c base) (list_all (λ c. is_digit c base) cs) all in
    and_from (is_ascii_alphanumeric c) (list_all is_ascii_alphanumeric cs) (digit_alphanumeric base c low parts.0) (digits_alphanumeric base cs low parts.1)

pub digits_all : (base : ℕ) (cs : List ℕ) → is_some (digits_number base cs) ≡ true → list_all (λ c. is_digit c base) cs ≡ true
digits_all base [] some = absurd cc
digits_all base (c ∷ cs) some = (and_parts _ _ (some_passed _ _ some)).0

after_zero_alphanumeric : (cs : List ℕ) → is_some (after_zero cs) ≡ true → list_all is_ascii_alphanumeric cs ≡ true
after_zero_alphanumeric [] some = refl
after_zero_alphanumeric (c ∷ cs) some =
    ⊎_elim
    (λ (x : (c == 0x78 || c == 0x58) ≡ true). and_from _ _ (letter_x c x) (digits_alphanumeric 16 cs (omega arith) (digits_all 16 cs (rw x at some))))
    (λ (other : (c == 0x78 || c == 0x58) ≡ false).
    ⊎_elim
    (λ (b : (c == 0x62 || c == 0x42) ≡ true). and_from _ _ (letter_b c b) (digits_alphanumeric 2 cs (omega arith) (digits_all 2 cs (rw (other, b) at some))))
    (λ (no : (c == 0x62 || c == 0x42) ≡ false). digits_alphanumeric 8 (c ∷ cs) (omega arith) (digits_all 8 (c ∷ cs) (rw (other, no) at some)))
    (cases_Bool (c == 0x62 || c == 0x42)))
    (cases_Bool (c == 0x78 || c == 0x58))

pub number_alphanumeric : (cs : List ℕ) → is_some (number_of cs) ≡ true → list_all is_ascii_alphanumeric cs ≡ true
number_alphanumeric [] some = absurd cc
number_alphanumeric (c ∷ cs) some =
    ⊎_elim
    (λ (zero : (c == 0x30) ≡ true). and_from _ _ (letter_zero c zero) (after_zero_alphanumeric cs (rw zero at some)))
    (λ (other : (c == 0x30) ≡ false). digits_alphanumeric 10 (c ∷ cs) (omega arith) (digits_all 10 (c ∷ cs) (rw other at some)))
    (cases_Bool (c == 0x30))

pub number_first : (c : ℕ) (cs : List ℕ) → is_some (number_of (c ∷ cs)) ≡ true → is_ascii_digit c ≡ true
number_first c cs some =
    ⊎_elim
    (λ (zero : (c == 0x30) ≡ true). let e = eqb-true c 0x30 zero in rw e refl)
    (λ (other : (c == 0x30) ≡ false). decimal_digit c (and_parts _ _ (digits_all 10 (c ∷ cs) (rw other at some))).0)
    (cases_Bool (c == 0x30))
