-- The marks in a text, line by line.
use Rattle.std.proofs.Common.{◌≡◌, ℕ, zero, suc, ◌+◌, ◌-◌, ◌==◌, ◌≤◌, Bool, true, false, cond, List, [], ◌∷◌, ◌++◌, length, take, drop, slice_get, Some, None, if◌then◌else◌, refl, ap, sym, ◌∙◌, arith, append_assoc}
use Rattle.std.proofs.lemmas.List.Sums.{take_while-cons}
use Rattle.std.specs.List.{take_while}
use Rattle.rv_show.specs.Origins.{Mark}
use Rattle.rv_files.specs.declared.marks.Part.{Part}
use Rattle.rv_files.specs.LineMarks.{behind, is_in, mark_on, marks_from}

behind_within : (part : Part) (bs : List ℕ) → length (behind part bs) ≤ length bs
behind_within part [] = omega arith
behind_within part (b ∷ bs) = at (is_in part b) refl (behind_within part bs)
  where
    at : (t : Bool) → is_in part b ≡ t → length (behind part bs) ≤ length bs → length (behind part (b ∷ bs)) ≤ length (b ∷ bs)
    at true e less = rw e (omega (arith, less))
    at false e less = rw e (omega arith)

-- what stands before the rest is the part
front_of : (part : Part) (bs : List ℕ) → take (length bs - length (behind part bs)) bs ≡ take_while (is_in part) bs
front_of part [] = refl
front_of part (b ∷ bs) = at (is_in part b) refl (front_of part bs)
  where
    at : (t : Bool) → is_in part b ≡ t → take (length bs - length (behind part bs)) bs ≡ take_while (is_in part) bs → take (length (b ∷ bs) - length (behind part (b ∷ bs))) (b ∷ bs) ≡ take_while (is_in part) (b ∷ bs)
    at true e later =
        let more : suc (length bs) - length (behind part bs) ≡ suc (length bs - length (behind part bs)) = omega (arith, behind_within part bs) in
        let this : take (length (b ∷ bs) - length (behind part (b ∷ bs))) (b ∷ bs) ≡ b ∷ take (length bs - length (behind part bs)) bs = rw (e, more) refl in
        this
        ∙ ap (λ l. b ∷ l) later
        ∙ sym (take_while-cons (is_in part) b bs ∙ ap (λ t. cond t (b ∷ take_while (is_in part) bs) []) e)
    at false e later =
        let none : suc (length bs) - suc (length bs) ≡ 0 = omega arith in
        rw (e, none) refl

pub front_is : (part : Part) (bs rest first : List ℕ) → rest ≡ behind part bs → first ≡ take (length bs - length rest) bs → first ≡ take_while (is_in part) bs
front_is part bs rest first left is = is ∙ ap (λ r. take (length bs - length r) bs) left ∙ front_of part bs

-- a line of a store, by how many lines are above it
pub line_below : (lines : List (List ℕ)) (k n : ℕ) (line : List ℕ) → n ≡ k + 1 → Some line ≡ (if n == 0 then None else slice_get lines (n - 1)) → Some line ≡ slice_get lines k
line_below lines k n line is e = at (n == 0) (n - 1) (omega (arith, is)) e
  where
    at : (b : Bool) (m : ℕ) → m ≡ k → Some line ≡ (if b then None else slice_get lines m) → Some line ≡ slice_get lines k
    at true m same e = absurd (let no : Some line ≡ None = e in cc)
    at false m same e = e ∙ ap (slice_get lines) same

-- the marks from a line on
marks_at : (n k : ℕ) (lines : List (List ℕ)) (line : List ℕ) → Some line ≡ slice_get lines k → marks_from n (drop k lines) ≡ mark_on n line ++ marks_from (n + 1) (drop (suc k) lines)
marks_at n k [] line e = absurd (let no : Some line ≡ None = e in cc)
marks_at n zero (l ∷ ls) line e =
    let same : line ≡ l = (let is : Some line ≡ Some l = e in cc) in
    rw same refl
marks_at n (suc k) (l ∷ ls) line e = marks_at n k ls line e

-- those of one line more
pub marks_more : (before after : List Mark) (k : ℕ) (lines : List (List ℕ)) (line : List ℕ) → before ++ marks_from (k + 1) (drop k lines) ≡ marks_from 1 lines → Some line ≡ slice_get lines k → after ≡ before ++ mark_on (k + 1) line → after ++ marks_from (k + 1 + 1) (drop (k + 1) lines) ≡ marks_from 1 lines
marks_more before after k lines line whole there added =
    let next : k + 1 ≡ suc k = omega arith in
    ap (λ n. after ++ marks_from (k + 1 + 1) (drop n lines)) next
    ∙ ap (λ l. l ++ marks_from (k + 1 + 1) (drop (suc k) lines)) added
    ∙ append_assoc before (mark_on (k + 1) line) (marks_from (k + 1 + 1) (drop (suc k) lines))
    ∙ ap (λ l. before ++ l) (sym (marks_at (k + 1) k lines line there))
    ∙ whole
