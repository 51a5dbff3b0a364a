-- The places of a string, byte by byte.
use Rattle.std.proofs.Common.{◌≡◌, ℕ, zero, suc, ◌+◌, ◌-◌, ◌<◌, ◌≤◌, ◌==◌, Bool, true, false, List, [], ◌∷◌, length, take, drop, get_or, add-zero, ap, sym, ◌∙◌, refl, arith}
use Rattle.std.proofs.lemmas.Bool.{lt-ltb}
use Rattle.std.proofs.lemmas.Bool.Decides.{nat_tests}
use Rattle.std.proofs.lemmas.List.{drop-drop, get_or-drop, length-drop}
use Rattle.std.specs.Prelude.{◌&&◌, not, nat_lt, Option, Some, None, option_map, if◌then◌else◌}
use Rattle.std.specs.Option.{option_map_or}
use Rattle.rv_text.specs.declared.strings.Spelling.{Spelling}
use Rattle.rv_text.specs.SliceLaws.{rest_of}
use Rattle.rv_text.specs.Strings.{escaped_at, spelled}
use Rattle.rv_report.specs.LexicalMessages.{unspelled_after}

-- to belong to the one before is to be behind
behind : (quote n : ℕ) (bs : List ℕ) → unspelled_after quote n bs ≡ unspelled_after quote 0 (drop n bs)
behind quote zero bs = refl
behind quote (suc n) [] = refl
behind quote (suc n) (b ∷ bs) = behind quote n bs

-- the place behind what begins at another, and 0 where nothing begins
abbrev place_behind : Option (ℕ × ℕ) → ℕ
place_behind found = option_map_or (λ p. p.1) found 0

abbrev is_filled : List ℕ → Bool
is_filled [] = false
is_filled (b ∷ bs) = true

-- what begins some bytes at a place
abbrev front : (quote at : ℕ) → List ℕ → Option (ℕ × ℕ)
front quote at bs =
    if is_filled bs && not (get_or bs 0 0 == quote) then option_map (λ s. (s.byte, at + s.len)) (spelled bs) else None

filled : (bs : List ℕ) → nat_lt 0 (length bs) ≡ is_filled bs
filled [] = refl
filled (b ∷ bs) = lt-ltb 0 (length (b ∷ bs)) (omega arith)

within : (text : List ℕ) (at : ℕ) → nat_lt at (length text) ≡ is_filled (drop at text)
within text at =
    let same : nat_lt at (length text) ≡ nat_lt 0 (length (drop at text)) = grind (arith, nat_tests, length-drop at text) in
    same ∙ filled (drop at text)

first_at : (text : List ℕ) (at : ℕ) → get_or text at 0 ≡ get_or (drop at text) 0 0
first_at text at = simp (get_or-drop, add-zero)

escaped_front : (text : List ℕ) (at : ℕ) → escaped_at text at ≡ front (get_or text 0 0) at (drop at text)
escaped_front text at = rw (within text at, first_at text at) refl

by_test : (quote b at next : ℕ) (bs : List ℕ) (is : Bool) (o : Option Spelling) → place_behind (if not is then option_map (λ s. (s.byte, at + s.len)) o else None) ≡ next → at < next → (if is then b ∷ bs else option_map_or (λ s. unspelled_after quote (s.len - 1) bs) o (b ∷ bs)) ≡ unspelled_after quote 0 (drop (next - at) (b ∷ bs))
by_test quote b at next bs true o h l = absurd (omega (arith, h, l))
by_test quote b at next bs false None h l = absurd (omega (arith, h, l))
by_test quote b at next bs false (Some s) h l =
    let size : next - at ≡ suc (s.len - 1) = omega (arith, h, l) in
    rw size (behind quote (s.len - 1) bs)

next_stop : (quote at next : ℕ) (bs : List ℕ) → place_behind (front quote at bs) ≡ next → at < next → unspelled_after quote 0 bs ≡ unspelled_after quote 0 (drop (next - at) bs)
next_stop quote at next [] h l = absurd (omega (arith, h, l))
next_stop quote at next (b ∷ bs) h l = by_test quote b at next bs (b == quote) (spelled (b ∷ bs)) h l

-- one byte or escape more
pub next_place : (text : List ℕ) (at next : ℕ) → next ≡ option_map_or (λ p. p.1) (escaped_at text at) 0 → at < next → unspelled_after (get_or text 0 0) 0 (drop next text) ≡ unspelled_after (get_or text 0 0) 0 (drop at text)
next_place text at next e l =
    let h : place_behind (front (get_or text 0 0) at (drop at text)) ≡ next = sym (e ∙ ap place_behind (escaped_front text at)) in
    let sum : at + (next - at) ≡ next = omega (arith, l) in
    let rest : drop (next - at) (drop at text) ≡ drop next text = drop-drop (next - at) at text ∙ ap (λ n. drop n text) sum in
    sym (next_stop (get_or text 0 0) at next (drop at text) h l ∙ ap (unspelled_after (get_or text 0 0) 0) rest)

-- the bytes behind the first
pub length_of_rest : (bs : List ℕ) → 1 ≤ length bs → length (take (length bs - 1) (drop 1 bs)) + 1 ≡ length bs
length_of_rest [] l = absurd (omega (arith, l))
length_of_rest (b ∷ bs) l = let same = ap length (rest_of b bs) in omega (arith, same)
