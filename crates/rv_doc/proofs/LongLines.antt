-- Lines that are longer than so many bytes.
use Rattle.std.proofs.Common.{◌≡◌, ℕ, suc, ◌+◌, ◌<◌, ◌≤◌, Bool, true, false, List, [], ◌∷◌, ◌++◌, length, take, drop, refl, ap, sym, ◌∙◌, arith, append_assoc, length-append, true≢false, inl, inr}
use Rattle.std.proofs.lemmas.Bool.Decides.{nat_tests}
use Rattle.std.proofs.lemmas.List.{take-append-drop, length-take-le}
use Rattle.std.proofs.lemmas.List.Folds.{list_any-append}
use Rattle.std.specs.Prelude.{nat_eq, nat_lt, ◌||◌}
use Rattle.std.specs.List.{list_any, onto_first}
use Rattle.rv_doc.specs.Positions.{lines_of, line_at}
use Rattle.rv_doc.specs.Borders.{IsLineStart}
use Rattle.rv_doc.proofs.Around.{lines_join}

not_less : (most n : ℕ) → n ≤ most → nat_lt most n ≡ false
not_less most n le = grind (arith, nat_tests, le)

or_right : (a b : Bool) → (a || b) ≡ false → b ≡ false
or_right true b e = absurd (true≢false e)
or_right false b e = e

first_onto : (x n : ℕ) (lines : List (List ℕ)) → length (line_at lines 0) ≤ n → length (line_at (onto_first x lines) 0) ≤ suc n
first_onto x n [] le = omega arith
first_onto x n (line ∷ lines) le = omega (arith, le)

first_by : (is : Bool) (x : ℕ) (text : List ℕ) → nat_eq x 10 ≡ is → length (line_at (lines_of text) 0) ≤ length text → length (line_at (lines_of (x ∷ text)) 0) ≤ suc (length text)
first_by true x text e le = rw e (omega arith)
first_by false x text e le = rw e (first_onto x (length text) (lines_of text) le)

-- the first line is no longer than the text
first_short : (text : List ℕ) → length (line_at (lines_of text) 0) ≤ length text
first_short [] = omega arith
first_short (x ∷ text) = first_by (nat_eq x 10) x text refl (first_short text)

any_onto : (most x : ℕ) (lines : List (List ℕ)) → suc (length (line_at lines 0)) ≤ most → list_any (λ line. nat_lt most (length line)) lines ≡ false → list_any (λ line. nat_lt most (length line)) (onto_first x lines) ≡ false
any_onto most x [] le none = rw (not_less most 1 (omega (arith, le))) refl
any_onto most x (line ∷ lines) le none = rw (not_less most (suc (length line)) le) (or_right (nat_lt most (length line)) _ none)

any_by : (is : Bool) (most x : ℕ) (text : List ℕ) → nat_eq x 10 ≡ is → suc (length text) ≤ most → list_any (λ line. nat_lt most (length line)) (lines_of text) ≡ false → list_any (λ line. nat_lt most (length line)) (lines_of (x ∷ text)) ≡ false
any_by true most x text e le none = rw (e, not_less most 0 (omega arith)) none
any_by false most x text e le none = rw e (any_onto most x (lines_of text) (omega (arith, first_short text, le)) none)

-- no line is longer than the text
pub none_longer : (most : ℕ) (text : List ℕ) → length text ≤ most → list_any (λ line. nat_lt most (length line)) (lines_of text) ≡ false
none_longer most [] le = rw (not_less most 0 (omega arith)) refl
none_longer most (x ∷ text) le = any_by (nat_eq x 10) most x text refl le (none_longer most text (omega (arith, le)))

-- nor one before a line that begins near
pub none_before : (most start : ℕ) (text before : List ℕ) → take start text ≡ before ++ 10 ∷ [] → start ≤ most + 1 → start ≤ length text → list_any (λ line. nat_lt most (length line)) (lines_of (drop start text)) ≡ list_any (λ line. nat_lt most (length line)) (lines_of text)
none_before most start text before is near within =
    let size : length (take start text) ≡ start = length-take-le start text within in
    let short : length before ≤ most = omega (arith, size, ap length is, length-append before (10 ∷ []), near) in
    let whole : text ≡ before ++ 10 ∷ drop start text = sym (take-append-drop start text) ∙ ap (λ t. t ++ drop start text) is ∙ append_assoc before (10 ∷ []) (drop start text) in
    let lines : lines_of text ≡ lines_of before ++ lines_of (drop start text) = ap lines_of whole ∙ lines_join before (drop start text) in
    sym (ap (λ l. list_any (λ line. nat_lt most (length line)) l) lines
    ∙ list_any-append (λ line. nat_lt most (length line)) (lines_of before) (lines_of (drop start text))
    ∙ ap (λ b. b || list_any (λ line. nat_lt most (length line)) (lines_of (drop start text))) (none_longer most before short))

pub none_before_start : (most start : ℕ) (text : List ℕ) → IsLineStart text start → 0 < start → start ≤ most + 1 → start ≤ length text → list_any (λ line. nat_lt most (length line)) (lines_of (drop start text)) ≡ list_any (λ line. nat_lt most (length line)) (lines_of text)
none_before_start most start text (inl e) some near within = absurd (omega (arith, e, some))
none_before_start most start text (inr (before, is)) some near within = none_before most start text before is near within
