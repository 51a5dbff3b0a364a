-- Hexadecimal digits one by one, the first before the others.
use Rattle.std.proofs.Common.{◌≡◌, ℕ, zero, suc, ◌*◌, ◌/◌, ◌%◌, ◌^◌, [], ◌∷◌, ◌++◌, refl, sym, ap, ◌∙◌, arith}
use Rattle.std.proofs.Math.Nat.{div-one}
use Rattle.std.proofs.lemmas.Nat.{shr-shr}
use Rattle.rv_text.specs.Rows.{hex, hex_digit}

pub hex_none : (n : ℕ) → hex 0 n ≡ []
unfolding hex
hex_none n = refl

pub hex_first : (count n : ℕ) → hex (suc count) n ≡ hex_digit (n / 2 ^ (4 * count) % 16) ∷ hex count n
unfolding hex
hex_first zero n = ap (λ m. hex_digit (m % 16) ∷ []) (sym (div-one n))
hex_first (suc count) n =
    let further : n / 16 / 2 ^ (4 * count) ≡ n / 2 ^ (4 * suc count) = shr-shr n 4 (4 * count) ∙ ap (λ k. n / 2 ^ k) (omega arith) in
    ap (λ xs. xs ++ hex_digit (n % 16) ∷ []) (hex_first count (n / 16)) ∙ ap (λ m. hex_digit (m % 16) ∷ hex (suc count) n) further
