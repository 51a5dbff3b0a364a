-- How many bytes stand before a column, and which lines behind a place.
use Rattle.std.proofs.Common.{◌≡◌, ℕ, zero, suc, ◌+◌, ◌-◌, ◌<◌, ◌≤◌, min, Bool, true, false, List, [], ◌∷◌, length, take, drop, refl, ap, ◌∙◌, arith, ltb-true, ltb-false, nat_lt, nat_eq}
use Rattle.std.specs.List.{onto_first}
use Rattle.std.proofs.lemmas.List.Splits.{length-slice_split}
use Rattle.rv_doc.specs.declared.encoding.Encoding.{Encoding}
use Rattle.rv_doc.specs.Positions.{units, before_column, columns, line_start, size_of_lines, lines_of}

room_by : (encoding : Encoding) (byte : ℕ) (bytes : List ℕ) (column : ℕ) (less : Bool) → nat_lt column (units encoding byte) ≡ less → columns encoding (take (before_column encoding bytes (column - units encoding byte)) bytes) ≤ column - units encoding byte → columns encoding (take (before_column encoding (byte ∷ bytes) column) (byte ∷ bytes)) ≤ column
room_by encoding byte bytes column true e h = rw e (omega arith)
room_by encoding byte bytes column false e h =
    let enough : units encoding byte ≤ column = ltb-false column (units encoding byte) e in
    rw e (omega (arith, h, enough))

pub room : (encoding : Encoding) (line : List ℕ) (column : ℕ) → columns encoding (take (before_column encoding line column) line) ≤ column
room encoding [] column = omega arith
room encoding (byte ∷ bytes) column =
    room_by encoding byte bytes column (nat_lt column (units encoding byte)) refl (room encoding bytes (column - units encoding byte))

most_by : (encoding : Encoding) (byte : ℕ) (bytes : List ℕ) (column more : ℕ) (less : Bool) → nat_lt column (units encoding byte) ≡ less → (before_column encoding bytes (column - units encoding byte) < more → column - units encoding byte < columns encoding (take more bytes)) → before_column encoding (byte ∷ bytes) column < suc more → column < columns encoding (take (suc more) (byte ∷ bytes))
most_by encoding byte bytes column more true e h lt =
    let few : column < units encoding byte = ltb-true column (units encoding byte) e in
    omega (arith, few)
most_by encoding byte bytes column more false e h lt =
    let next : suc (before_column encoding bytes (column - units encoding byte)) < suc more = rw e at lt in
    let all = h (omega (arith, next)) in
    omega (arith, all)

pub most : (encoding : Encoding) (line : List ℕ) (column more : ℕ) → before_column encoding line column < more → more ≤ length line → column < columns encoding (take more line)
most encoding [] column more lt le = absurd (omega (arith, lt, le))
most encoding (byte ∷ bytes) column zero lt le = absurd (omega (arith, lt))
most encoding (byte ∷ bytes) column (suc more) lt le =
    most_by encoding byte bytes column more (nat_lt column (units encoding byte)) refl (λ l. most encoding bytes (column - units encoding byte) more l (omega (arith, le))) lt

some : (text : List ℕ) → 0 < length (lines_of text)
some text = omega (arith, length-slice_split (λ b. nat_eq b 10) text)

length_onto : (x : ℕ) (lines : List (List ℕ)) → 0 < length lines → length (onto_first x lines) ≡ length lines
length_onto x [] lt = absurd (omega (arith, lt))
length_onto x (first ∷ lines) lt = refl

-- the lines from a number on begin at this place
abbrev Begins : (text : List ℕ) → (lines : List (List ℕ)) → ℕ → Type 0
Begins text lines number = lines_of (drop (min (length text) (size_of_lines lines number)) text) ≡ drop number lines

drop_min : {A : Type 0} (x : A) (xs : List A) (n : ℕ) → drop (min (length (x ∷ xs)) (suc n)) (x ∷ xs) ≡ drop (min (length xs) n) xs
drop_min x xs n = let less : min (suc (length xs)) (suc n) ≡ suc (min (length xs) n) = omega arith in rw less refl

longer : (x : ℕ) (xs : List ℕ) (lines : List (List ℕ)) (number : ℕ) → 0 < length lines → Begins xs lines (suc number) → lines_of (drop (min (length (x ∷ xs)) (size_of_lines (onto_first x lines) (suc number))) (x ∷ xs)) ≡ drop (suc number) (onto_first x lines)
longer x xs [] number lt h = absurd (omega (arith, lt))
longer x xs (first ∷ lines) number lt h =
    let size : length (x ∷ first) + 1 + size_of_lines lines number ≡ suc (length first + 1 + size_of_lines lines number) = omega arith in
    rw size (ap lines_of (drop_min x xs (length first + 1 + size_of_lines lines number)) ∙ h)

begins_by : (x : ℕ) (xs : List ℕ) (number : ℕ) (ends : Bool) → nat_eq x 10 ≡ ends → ((n : ℕ) → n < length (lines_of xs) → Begins xs (lines_of xs) n) → suc number < length (lines_of (x ∷ xs)) → Begins (x ∷ xs) (lines_of (x ∷ xs)) (suc number)
begins_by x xs number true e h lt =
    let cut : lines_of (x ∷ xs) ≡ [] ∷ lines_of xs = rw e refl in
    let few : suc number < length ([] ∷ lines_of xs) = rw cut at lt in
    let one : 0 + 1 + size_of_lines (lines_of xs) number ≡ suc (size_of_lines (lines_of xs) number) = omega arith in
    let all : Begins (x ∷ xs) ([] ∷ lines_of xs) (suc number) = rw one (ap lines_of (drop_min x xs (size_of_lines (lines_of xs) number)) ∙ h number (omega (arith, few))) in
    rw cut all
begins_by x xs number false e h lt =
    let kept : lines_of (x ∷ xs) ≡ onto_first x (lines_of xs) = rw e refl in
    let few : suc number < length (onto_first x (lines_of xs)) = rw kept at lt in
    rw kept (longer x xs (lines_of xs) number (some xs) (h (suc number) (omega (arith, few, length_onto x (lines_of xs) (some xs)))))

pub begins : (text : List ℕ) (number : ℕ) → number < length (lines_of text) → lines_of (drop (line_start text number) text) ≡ drop number (lines_of text)
begins text zero lt = let none : min (length text) 0 ≡ 0 = omega arith in rw none refl
begins [] (suc number) lt = absurd (omega (arith, lt))
begins (x ∷ xs) (suc number) lt = begins_by x xs number (nat_eq x 10) refl (λ n l. begins xs n l) lt
