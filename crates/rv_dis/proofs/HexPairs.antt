-- The hexadecimal digits of a number, two at a time.
use Rattle.std.proofs.Common.{◌≡◌, ℕ, suc, ◌*◌, ◌/◌, ◌%◌, ◌^◌, [], ◌∷◌, ◌++◌, map, IsAscii, refl, sym, ap, ◌∙◌, arith}
use Rattle.std.specs.List.{range_with_len}
use Rattle.std.proofs.lemmas.Nat.{shr-shr}
use Rattle.rv_text.specs.Rows.{hex, hex_digit}
use Rattle.rv_text.specs.RowLaws.{hex_first}
use Rattle.rv_dis.specs.declared.numbers.TheConstants.{HEX_PAIRS}
use Rattle.rv_dis.proofs.PairTexts.{ascii_text, pair_of, same_below}

pub hex_pairs_ascii : IsAscii HEX_PAIRS.now
hex_pairs_ascii = ascii_text HEX_PAIRS.now refl

pairs_test : map (pair_of HEX_PAIRS.now) (range_with_len 0 256) ≡ map (hex 2) (range_with_len 0 256)
unfolding hex
pairs_test = refl

-- the pair of the last two digits
pub last_pair : (n : ℕ) → pair_of HEX_PAIRS.now (n % 256) ≡ hex 2 n
unfolding hex
last_pair n =
    let first : n % 256 / 16 % 16 ≡ n / 16 % 16 = omega arith in
    let second : n % 256 % 16 ≡ n % 16 = omega arith in
    same_below (pair_of HEX_PAIRS.now) (hex 2) 256 (n % 256) pairs_test (omega arith)
    ∙ ap (λ d. hex_digit d ∷ hex_digit (n % 256 % 16) ∷ []) first
    ∙ ap (λ d. hex_digit (n / 16 % 16) ∷ hex_digit d ∷ []) second

-- the first two digits before the others
pub first_pair : (count n : ℕ) → hex (suc (suc count)) n ≡ hex 2 (n / 2 ^ (4 * count)) ++ hex count n
unfolding hex
first_pair count n =
    let m = n / 2 ^ (4 * count) in
    let further : m / 2 ^ 4 ≡ n / 2 ^ (4 * suc count) = shr-shr n (4 * count) 4 ∙ ap (λ k. n / 2 ^ k) (omega arith) in
    hex_first (suc count) n
    ∙ ap (λ d. hex_digit (d % 16) ∷ hex (suc count) n) (sym further)
    ∙ ap (λ ds. hex_digit (m / 16 % 16) ∷ ds) (hex_first count n)

-- the eight digits of a number
pub word_of_pairs : (n : ℕ) → hex 8 n ≡ hex 2 (n / 2 ^ 24) ++ (hex 2 (n / 2 ^ 16) ++ (hex 2 (n / 2 ^ 8) ++ hex 2 n))
word_of_pairs n =
    first_pair 6 n
    ∙ ap (λ ds. hex 2 (n / 2 ^ 24) ++ ds) (first_pair 4 n)
    ∙ ap (λ ds. hex 2 (n / 2 ^ 24) ++ (hex 2 (n / 2 ^ 16) ++ ds)) (first_pair 2 n)
