-- Texts of pairs of characters.
use Rattle.std.proofs.Common.{◌≡◌, ℕ, ◌*◌, ◌<◌, true, List, [], ◌∷◌, take, drop, map, get_or, nat_lt, IsAscii, sym, ap, ◌∙◌, arith, ltb-true}
use Rattle.std.specs.List.{list_all, range_with_len}
use Rattle.std.proofs.lemmas.Bool.{and_parts}
use Rattle.std.proofs.lemmas.List.FromFn.{get_or-map-range_with_len}
use Rattle.std.proofs.lemmas.Str.Ascii.{IsAscii-cons, IsAscii-nil}

-- a text is ASCII if a test of its bytes says so
pub ascii_text : (bs : List ℕ) → list_all (λ b. nat_lt b 128) bs ≡ true → IsAscii bs
ascii_text [] h = IsAscii-nil
ascii_text (b ∷ bs) h =
    let parts = and_parts (nat_lt b 128) (list_all (λ b. nat_lt b 128) bs) h in
    IsAscii-cons b bs (ltb-true b 128 parts.0) (ascii_text bs parts.1)

-- the pair at a place
abbrev pub pair_of : List ℕ → ℕ → List ℕ
pair_of pairs place = take 2 (drop (2 * place) pairs)

-- what is computed for all numbers below one holds for each
pub same_below : {X : Type 0} (f g : ℕ → X) (count n : ℕ) → map f (range_with_len 0 count) ≡ map g (range_with_len 0 count) → n < count → f n ≡ g n
same_below f g count n all h =
    sym (get_or-map-range_with_len f 0 count n n (f n) h (omega arith))
    ∙ ap (λ xs. get_or xs n (f n)) all
    ∙ get_or-map-range_with_len g 0 count n n (f n) h (omega arith)
