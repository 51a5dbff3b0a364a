-- The digits of a number are those of its first half and those of its second.
use Rattle.std.proofs.Common.{◌≡◌, ℕ, ◌<◌, ◌/◌, ◌%◌, List, ◌++◌, [], ◌∷◌, map, get_or, refl, sym, ap, ◌∙◌, arith}
use Rattle.std.specs.List.{range_with_len}
use Rattle.std.proofs.lemmas.List.FromFn.{get_or-map-range_with_len}
use Rattle.rv_text.specs.Rows.{hex, hex_digit}
use Rattle.rv_commands.specs.declared.columns.TheConstants.{PAIRS}

four : (a b c d : ℕ) → List ℕ
four a b c d = hex_digit a ∷ hex_digit b ∷ hex_digit c ∷ hex_digit d ∷ []

pub half_of_pairs : (n : ℕ) → hex 4 n ≡ hex 2 (n / 256) ++ hex 2 (n % 256)
unfolding hex four
half_of_pairs n =
    let a : n / 16 / 16 / 16 % 16 ≡ n / 256 / 16 % 16 = omega arith in
    let b : n / 16 / 16 % 16 ≡ n / 256 % 16 = omega arith in
    let c : n / 16 % 16 ≡ n % 256 / 16 % 16 = omega arith in
    let d : n % 16 ≡ n % 256 % 16 = omega arith in
    ap (λ x. four x (n / 16 / 16 % 16) (n / 16 % 16) (n % 16)) a
    ∙ ap (λ x. four (n / 256 / 16 % 16) x (n / 16 % 16) (n % 16)) b
    ∙ ap (λ x. four (n / 256 / 16 % 16) (n / 256 % 16) x (n % 16)) c
    ∙ ap (λ x. four (n / 256 / 16 % 16) (n / 256 % 16) (n % 256 / 16 % 16) x) d

pub word_of_halves : (n : ℕ) → hex 8 n ≡ hex 4 (n / 65536) ++ hex 4 (n % 65536)
unfolding hex four
word_of_halves n =
    let f : n / 16 / 16 / 16 / 16 ≡ n / 65536 = omega arith in
    let a : n / 16 / 16 / 16 % 16 ≡ n % 65536 / 16 / 16 / 16 % 16 = omega arith in
    let b : n / 16 / 16 % 16 ≡ n % 65536 / 16 / 16 % 16 = omega arith in
    let c : n / 16 % 16 ≡ n % 65536 / 16 % 16 = omega arith in
    let d : n % 16 ≡ n % 65536 % 16 = omega arith in
    ap (λ x. hex 4 x ++ four (n / 16 / 16 / 16 % 16) (n / 16 / 16 % 16) (n / 16 % 16) (n % 16)) f
    ∙ ap (λ x. hex 4 (n / 65536) ++ four x (n / 16 / 16 % 16) (n / 16 % 16) (n % 16)) a
    ∙ ap (λ x. hex 4 (n / 65536) ++ four (n % 65536 / 16 / 16 / 16 % 16) x (n / 16 % 16) (n % 16)) b
    ∙ ap (λ x. hex 4 (n / 65536) ++ four (n % 65536 / 16 / 16 / 16 % 16) (n % 65536 / 16 / 16 % 16) x (n % 16)) c
    ∙ ap (λ x. hex 4 (n / 65536) ++ four (n % 65536 / 16 / 16 / 16 % 16) (n % 65536 / 16 / 16 % 16) (n % 65536 / 16 % 16) x) d

pub low_half : (n : ℕ) → hex 4 (n % 65536) ≡ hex 4 n
unfolding hex four
low_half n =
    let a : n % 65536 / 16 / 16 / 16 % 16 ≡ n / 16 / 16 / 16 % 16 = omega arith in
    let b : n % 65536 / 16 / 16 % 16 ≡ n / 16 / 16 % 16 = omega arith in
    let c : n % 65536 / 16 % 16 ≡ n / 16 % 16 = omega arith in
    let d : n % 65536 % 16 ≡ n % 16 = omega arith in
    ap (λ x. four x (n % 65536 / 16 / 16 % 16) (n % 65536 / 16 % 16) (n % 65536 % 16)) a
    ∙ ap (λ x. four (n / 16 / 16 / 16 % 16) x (n % 65536 / 16 % 16) (n % 65536 % 16)) b
    ∙ ap (λ x. four (n / 16 / 16 / 16 % 16) (n / 16 / 16 % 16) x (n % 65536 % 16)) c
    ∙ ap (λ x. four (n / 16 / 16 / 16 % 16) (n / 16 / 16 % 16) (n / 16 % 16) x) d

pairs_test : map (hex 2) (range_with_len 0 256) ≡ PAIRS
unfolding hex
pairs_test = refl

pub pair_at : (n : ℕ) → n < 256 → get_or PAIRS n [] ≡ hex 2 n
pair_at n h = ap (λ rows. get_or rows n []) (sym pairs_test) ∙ get_or-map-range_with_len (hex 2) 0 256 n n [] h (omega arith)
