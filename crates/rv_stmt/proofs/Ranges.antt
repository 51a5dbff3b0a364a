-- Parts of the tokens of a line.
use Rattle.std.proofs.Common.{[], ◌∷◌, Some, None, ◌≡◌, ℕ, ◌+◌, ◌-◌, ◌≤◌, List, length, take, drop, sym, ap, ◌∙◌, refl, arith}
use Rattle.std.specs.List.{slice_range, slice_get}
use Rattle.std.proofs.lemmas.Option.{none-some, same_Some}
use Rattle.std.proofs.lemmas.List.{drop_all, length-take-le, length-drop, drop-take, take-take, drop-drop}
use Rattle.rv_text.specs.Lexing.{LexedLine, spelled_tokens}
use Rattle.rv_text.specs.TokenLaws.{count_of_spelled_tokens}
use Rattle.rv_expr.specs.Reading.{run_of}

pub length_run : (l : LexedLine) (from to : ℕ) → to ≤ length l.tokens → length (run_of l from to) ≡ to - from
length_run l from to h =
    let count : length (spelled_tokens l) ≡ length l.tokens = count_of_spelled_tokens l in
    length-take-le (to - from) (drop from (spelled_tokens l)) (rw length-drop omega (arith, h, count))

pub part_of_part : {A : Type 0} (xs : List A) (f t a b : ℕ) → a ≤ b → b ≤ t - f → slice_range xs (f + a) (f + b) ≡ slice_range (slice_range xs f t) a b
part_of_part xs f t a b h k =
    let n : (f + b) - (f + a) ≡ b - a = omega arith in
    let m : a + (t - f - a) ≡ t - f = omega arith in
    let bound : b - a ≤ t - f - a = omega arith in
    let left : take ((f + b) - (f + a)) (drop (f + a) xs) ≡ take (b - a) (drop (f + a) xs) = ap (λ c. take c (drop (f + a) xs)) n in
    let inner : drop a (take (t - f) (drop f xs)) ≡ take (t - f - a) (drop (f + a) xs) =
    ap (λ c. drop a (take c (drop f xs))) (sym m)
    ∙ drop-take a (t - f - a) (drop f xs)
    ∙ ap (λ ys. take (t - f - a) ys) (drop-drop a f xs) in
    left
    ∙ sym (ap (take (b - a)) inner ∙ take-take (b - a) (t - f - a) (drop (f + a) xs) bound)

-- the tokens of a range from a place on
pub range_after : {A : Type 0} (xs : List A) (f t k : ℕ) → k ≤ t - f → slice_range xs (f + k) t ≡ drop k (slice_range xs f t)
range_after xs f t k h =
    let n : t - f ≡ k + (t - (f + k)) = omega arith in
    sym
    (ap (λ c. drop k (take c (drop f xs))) n
    ∙ drop-take k (t - (f + k)) (drop f xs)
    ∙ ap (λ ys. take (t - (f + k)) ys) (drop-drop k f xs))

pub past_range : {A : Type 0} (xs : List A) (f t k : ℕ) → length (slice_range xs f t) ≤ k → slice_range xs t t ≡ drop k (slice_range xs f t)
past_range xs f t k h =
    let n : t - t ≡ 0 = omega arith in
    ap (λ c. take c (drop t xs)) n ∙ sym (drop_all k (slice_range xs f t) h)

-- the first element of a list and those after it
pub first_and_rest : {A : Type 0} (xs : List A) (x : A) → Some x ≡ slice_get xs 0 → xs ≡ x ∷ drop 1 xs
first_and_rest [] x h = absurd (none-some x (sym h))
first_and_rest (y ∷ ys) x h = ap (λ z. z ∷ ys) (sym (same_Some x y h))

pub none_first : {A : Type 0} (xs : List A) → None ≡ slice_get xs 0 → xs ≡ []
none_first [] h = refl
none_first (x ∷ xs) h = absurd (none-some x h)

-- what is left after a place
pub length_after : {A : Type 0} (xs : List A) (k : ℕ) → length (drop k xs) ≡ length xs - k
length_after xs k = length-drop k xs
