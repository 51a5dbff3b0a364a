-- Hexadecimal digits one by one.
use Rattle.std.proofs.Common.{◌≡◌, ℕ, zero, suc, ◌/◌, ◌%◌, ◌^◌, ◌<◌, ◌≤◌, Bool, cond, List, [], ◌∷◌, ◌++◌, refl, sym, ap, ◌∙◌, ⊎_elim, append_assoc, arith, eq-eqb, ne_eqb}
use Rattle.std.specs.Fmt.{digits, digits_onto, digit_glyph}
use Rattle.std.proofs.lemmas.Bool.{cases_lt}

abbrev spelled : Bool → ℕ → ℕ → List ℕ → List ℕ
spelled upper k n acc = digits_onto k 16 upper n acc

spelled_last : (upper : Bool) (k n : ℕ) (acc : List ℕ) → n < 16 → spelled upper (suc k) n acc ≡ digit_glyph upper (n % 16) ∷ acc
spelled_last upper k n acc h = ap (λ t. cond t (digit_glyph upper (n % 16) ∷ acc) (spelled upper k (n / 16) (digit_glyph upper (n % 16) ∷ acc))) (eq-eqb (n / 16) 0 (omega arith))

spelled_next : (upper : Bool) (k n : ℕ) (acc : List ℕ) → 16 ≤ n → spelled upper (suc k) n acc ≡ spelled upper k (n / 16) (digit_glyph upper (n % 16) ∷ acc)
spelled_next upper k n acc h = ap (λ t. cond t (digit_glyph upper (n % 16) ∷ acc) (spelled upper k (n / 16) (digit_glyph upper (n % 16) ∷ acc))) (ne_eqb (n / 16) 0 (λ e. omega arith))

spelled_append : (upper : Bool) (k n : ℕ) (acc : List ℕ) → spelled upper k n acc ≡ spelled upper k n [] ++ acc
spelled_append upper zero n acc = refl
spelled_append upper (suc k) n acc = ⊎_elim
    (λ l. spelled_last upper k n acc l ∙ ap (λ x. x ++ acc) (sym (spelled_last upper k n [] l)))
    (λ l. spelled_next upper k n acc l ∙ spelled_append upper k (n / 16) (digit_glyph upper (n % 16) ∷ acc) ∙ sym (append_assoc (spelled upper k (n / 16) []) (digit_glyph upper (n % 16) ∷ []) acc) ∙ ap (λ x. x ++ acc) (sym (spelled_next upper k n [] l ∙ spelled_append upper k (n / 16) (digit_glyph upper (n % 16) ∷ []))))
    (cases_lt n 16)

-- the limit of the count does not matter where it is large enough
spelled_enough : (upper : Bool) (j k n : ℕ) (acc : List ℕ) → n < 16 ^ suc j → n < 16 ^ suc k → spelled upper (suc j) n acc ≡ spelled upper (suc k) n acc
spelled_enough upper zero k n acc p q = spelled_last upper zero n acc (omega arith) ∙ sym (spelled_last upper k n acc (omega arith))
spelled_enough upper (suc j) zero n acc p q = spelled_last upper (suc j) n acc (omega arith) ∙ sym (spelled_last upper zero n acc (omega arith))
spelled_enough upper (suc j) (suc k) n acc p q = ⊎_elim
    (λ l. spelled_last upper (suc j) n acc l ∙ sym (spelled_last upper (suc k) n acc l))
    (λ l. spelled_next upper (suc j) n acc l ∙ spelled_enough upper j k (n / 16) (digit_glyph upper (n % 16) ∷ acc) (omega arith) (omega arith) ∙ sym (spelled_next upper (suc k) n acc l))
    (cases_lt n 16)

-- the last digit of a number without leading zeros, alone or after the others
pub digits_last : (upper : Bool) (n : ℕ) → n < 16 → digits 16 upper n ≡ digit_glyph upper (n % 16) ∷ []
unfolding digits
digits_last upper n h = spelled_last upper 63 n [] h

pub digits_step : (upper : Bool) (n : ℕ) → 16 ≤ n → n < 2 ^ 64 → digits 16 upper n ≡ digits 16 upper (n / 16) ++ digit_glyph upper (n % 16) ∷ []
unfolding digits
digits_step upper n h small =
    spelled_next upper 63 n [] h ∙ spelled_enough upper 62 63 (n / 16) (digit_glyph upper (n % 16) ∷ []) (omega arith) (omega arith) ∙ spelled_append upper 64 (n / 16) (digit_glyph upper (n % 16) ∷ [])
