-- The lines behind a block of a text.
use Rattle.std.proofs.Common.{◌≡◌, ℕ, zero, suc, ◌+◌, ◌-◌, ◌<◌, Bool, true, false, List, [], ◌∷◌, ◌++◌, length, take, drop, refl, ap, sym, ◌∙◌, arith, subst}
use Rattle.std.specs.Prelude.{nat_eq, ◌==◌, if◌then◌else◌}
use Rattle.std.specs.List.{count_by, onto_first}
use Rattle.std.proofs.lemmas.List.{take-append-drop}
use Rattle.std.proofs.lemmas.List.Splits.{length-slice_split}
use Rattle.std.proofs.lemmas.List.Sums.{sum_by-append}
use Rattle.rv_doc.specs.Positions.{lines_of, size_of_lines, line_at}

-- a byte more in the first line
size_onto : (x : ℕ) (lines : List (List ℕ)) (n : ℕ) → 0 < length lines → size_of_lines (onto_first x lines) (suc n) ≡ suc (size_of_lines lines (suc n))
size_onto x [] n some = absurd (omega (arith, some))
size_onto x (line ∷ lines) n some = omega arith

line_onto : (x : ℕ) (lines : List (List ℕ)) (n : ℕ) → 0 < length lines → line_at (onto_first x lines) (suc n) ≡ line_at lines (suc n)
line_onto x [] n some = absurd (omega (arith, some))
line_onto x (line ∷ lines) n some = refl

some_lines : (bytes : List ℕ) → 0 < length (lines_of bytes)
some_lines bytes = omega (arith, length-slice_split (λ b. b == 10) bytes)

all_left : (n : ℕ) → n ≡ n - 0
all_left n = omega arith

-- one byte more in a block
count_is : (is : Bool) (x : ℕ) (block : List ℕ) → nat_eq x 10 ≡ is → count_by (λ b. b == 10) (x ∷ block) ≡ (if is then 1 else 0) + count_by (λ b. b == 10) block
count_is is x block e = subst (λ b. count_by (λ b. b == 10) (x ∷ block) ≡ (if b then 1 else 0) + count_by (λ b. b == 10) block) e (omega (arith, sum_by-append (λ b. if b == 10 then 1 else 0) (x ∷ []) block))

size_by : (is : Bool) (x : ℕ) (block rest : List ℕ) (n k : ℕ) → nat_eq x 10 ≡ is → ((m : ℕ) → count_by (λ b. b == 10) block < m → size_of_lines (lines_of (block ++ rest)) m ≡ length block + size_of_lines (lines_of rest) (m - count_by (λ b. b == 10) block)) → k ≡ (if is then 1 else 0) + count_by (λ b. b == 10) block → k < suc n → size_of_lines (lines_of ((x ∷ block) ++ rest)) (suc n) ≡ suc (length block) + size_of_lines (lines_of rest) (suc n - k)
size_by true x block rest n k e behind is few =
    let less : suc n - k ≡ n - count_by (λ b. b == 10) block = omega (arith, is) in
    rw (e, less) (omega (arith, behind n (omega (arith, is, few))))
size_by false x block rest n k e behind is few =
    let same : k ≡ count_by (λ b. b == 10) block = omega (arith, is) in
    rw (e, same) (omega (arith, size_onto x (lines_of (block ++ rest)) n (some_lines (block ++ rest)), behind (suc n) (omega (arith, same, few))))

size_behind : (block rest : List ℕ) (n : ℕ) → count_by (λ b. b == 10) block < n → size_of_lines (lines_of (block ++ rest)) n ≡ length block + size_of_lines (lines_of rest) (n - count_by (λ b. b == 10) block)
size_behind [] rest n few = omega (arith, ap (λ m. size_of_lines (lines_of rest) m) (all_left n))
size_behind (x ∷ block) rest zero few = absurd (omega (arith, few))
size_behind (x ∷ block) rest (suc n) few = size_by (nat_eq x 10) x block rest n _ refl (size_behind block rest) (count_is (nat_eq x 10) x block refl) few

line_by : (is : Bool) (x : ℕ) (block rest : List ℕ) (n k : ℕ) → nat_eq x 10 ≡ is → ((m : ℕ) → count_by (λ b. b == 10) block < m → line_at (lines_of (block ++ rest)) m ≡ line_at (lines_of rest) (m - count_by (λ b. b == 10) block)) → k ≡ (if is then 1 else 0) + count_by (λ b. b == 10) block → k < suc n → line_at (lines_of ((x ∷ block) ++ rest)) (suc n) ≡ line_at (lines_of rest) (suc n - k)
line_by true x block rest n k e behind is few =
    let less : suc n - k ≡ n - count_by (λ b. b == 10) block = omega (arith, is) in
    rw (e, less) (behind n (omega (arith, is, few)))
line_by false x block rest n k e behind is few =
    let same : k ≡ count_by (λ b. b == 10) block = omega (arith, is) in
    rw (e, same) (line_onto x (lines_of (block ++ rest)) n (some_lines (block ++ rest)) ∙ behind (suc n) (omega (arith, same, few)))

line_behind : (block rest : List ℕ) (n : ℕ) → count_by (λ b. b == 10) block < n → line_at (lines_of (block ++ rest)) n ≡ line_at (lines_of rest) (n - count_by (λ b. b == 10) block)
line_behind [] rest n few = ap (λ m. line_at (lines_of rest) m) (all_left n)
line_behind (x ∷ block) rest zero few = absurd (omega (arith, few))
line_behind (x ∷ block) rest (suc n) few = line_by (nat_eq x 10) x block rest n _ refl (line_behind block rest) (count_is (nat_eq x 10) x block refl) few

-- where a line begins, whose line break before it stands behind a block
pub size_passed : (text : List ℕ) (size n : ℕ) → count_by (λ b. b == 10) (take size text) < n → size_of_lines (lines_of text) n ≡ length (take size text) + size_of_lines (lines_of (drop size text)) (n - count_by (λ b. b == 10) (take size text))
size_passed text size n few = ap (λ t. size_of_lines (lines_of t) n) (sym (take-append-drop size text)) ∙ size_behind (take size text) (drop size text) n few

-- and what that line is
pub line_passed : (text : List ℕ) (size n : ℕ) → count_by (λ b. b == 10) (take size text) < n → line_at (lines_of text) n ≡ line_at (lines_of (drop size text)) (n - count_by (λ b. b == 10) (take size text))
line_passed text size n few = ap (λ t. line_at (lines_of t) n) (sym (take-append-drop size text)) ∙ line_behind (take size text) (drop size text) n few
