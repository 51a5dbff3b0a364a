-- The first line of a text, and those behind it.
use Rattle.std.proofs.Common.{◌≡◌, ℕ, zero, suc, ◌+◌, ◌<◌, ◌≤◌, Bool, true, false, List, [], ◌∷◌, length, take, drop, refl, ap, arith, add-one, Some, None}
use Rattle.std.proofs.lemmas.Grind.{common_steps}
use Rattle.std.proofs.lemmas.List.{drop-drop, take_all}
use Rattle.std.specs.List.{list_any}
use Rattle.std.specs.Prelude.{nat_eq, slice_index, ◌==◌}
use Rattle.memchr.specs.Find.{IsFirstByte, is_byte}
use Rattle.rv_doc.specs.Positions.{lines_of, size_of_lines, line_at}

not_true : (b : Bool) → (b ≡ true → ⊥) → b ≡ false
not_true true h = absurd (h refl)
not_true false h = refl

first_of : (k : ℕ) (bytes : List ℕ) → ((j : ℕ) → j < k → nat_eq (slice_index bytes j) 10 ≡ true → ⊥) → k < length bytes → nat_eq (slice_index bytes k) 10 ≡ true → lines_of bytes ≡ take k bytes ∷ lines_of (drop (suc k) bytes)
first_of k [] h lt e = absurd (omega arith)
first_of zero (x ∷ bytes) h lt e = let same : nat_eq x 10 ≡ true = e in rw same refl
first_of (suc k) (x ∷ bytes) h lt e =
    let other : nat_eq x 10 ≡ false = not_true (nat_eq x 10) (h 0 (omega arith)) in
    rw (other, first_of k bytes (λ j l. h (suc j) (omega arith)) (omega arith) e) refl

-- what stands before the first line break is the first line
pub lines_first : (bytes : List ℕ) (k : ℕ) → IsFirstByte (is_byte 10) bytes (Some k) → lines_of bytes ≡ take k bytes ∷ lines_of (drop (k + 1) bytes)
lines_first bytes k f = rw (add-one k) (first_of k bytes (λ j l. f.0.before j (omega arith) l) f.0.high f.1)

-- the same, where the line and its break are taken off one after the other
pub lines_split : (bytes : List ℕ) (k : ℕ) → IsFirstByte (is_byte 10) bytes (Some k) → lines_of bytes ≡ take k bytes ∷ lines_of (drop 1 (drop k bytes))
lines_split bytes k f = rw (drop-drop 1 k bytes) (lines_first bytes k f)

only_line : (bytes : List ℕ) → ((j : ℕ) → j < length bytes → nat_eq (slice_index bytes j) 10 ≡ true → ⊥) → lines_of bytes ≡ bytes ∷ []
only_line [] h = refl
only_line (x ∷ bytes) h =
    let other : nat_eq x 10 ≡ false = not_true (nat_eq x 10) (h 0 (omega arith)) in
    rw (other, only_line bytes (λ j l. h (suc j) (omega arith))) refl

-- without a line break there is one line
pub lines_only : (bytes : List ℕ) → IsFirstByte (is_byte 10) bytes None → lines_of bytes ≡ bytes ∷ []
lines_only bytes f = only_line bytes (λ j l. f j (omega arith) l)

-- the first lines and their sizes, where there is a line break
pub size_found : (bytes : List ℕ) (k n : ℕ) → IsFirstByte (is_byte 10) bytes (Some k) → size_of_lines (lines_of bytes) (suc n) ≡ k + 1 + size_of_lines (lines_of (drop (k + 1) bytes)) n
size_found bytes k n f =
    let size : length (take k bytes) ≡ k = grind (arith, common_steps, f.0.high) in
    rw (lines_first bytes k f) (ap (λ s. s + 1 + size_of_lines (lines_of (drop (k + 1) bytes)) n) size)

pub line_found : (bytes : List ℕ) (k n : ℕ) → IsFirstByte (is_byte 10) bytes (Some k) → line_at (lines_of bytes) (suc n) ≡ line_at (lines_of (drop (k + 1) bytes)) n
line_found bytes k n f = rw (lines_first bytes k f) refl

no_size : (n : ℕ) → size_of_lines [] n ≡ 0
no_size zero = refl
no_size (suc n) = refl

-- and where there is none
pub size_only : (bytes : List ℕ) (n : ℕ) → IsFirstByte (is_byte 10) bytes None → size_of_lines (lines_of bytes) (suc n) ≡ length bytes + 1
size_only bytes n f = rw (lines_only bytes f) (omega (arith, no_size n))

pub line_only : (bytes : List ℕ) (n : ℕ) → IsFirstByte (is_byte 10) bytes None → line_at (lines_of bytes) (suc n) ≡ []
line_only bytes n f = rw (lines_only bytes f) refl

-- Lines without line breaks

unbroken : (k : ℕ) (bytes : List ℕ) → ((j : ℕ) → j < k → nat_eq (slice_index bytes j) 10 ≡ true → ⊥) → k ≤ length bytes → list_any (λ b. b == 10) (take k bytes) ≡ false
unbroken zero bytes h le = refl
unbroken (suc k) [] h le = absurd (omega arith)
unbroken (suc k) (x ∷ bytes) h le =
    let other : nat_eq x 10 ≡ false = not_true (nat_eq x 10) (h 0 (omega arith)) in
    rw (other, unbroken k bytes (λ j l. h (suc j) (omega arith)) (omega arith)) refl

-- the first line
pub unbroken_first : (bytes : List ℕ) (k : ℕ) → IsFirstByte (is_byte 10) bytes (Some k) → list_any (λ b. b == 10) (take k bytes) ≡ false
unbroken_first bytes k f = unbroken k bytes (λ j l. f.0.before j (omega arith) l) (let high : k < length bytes = f.0.high in omega (arith, high))

-- a text without a line break
pub unbroken_only : (bytes : List ℕ) → IsFirstByte (is_byte 10) bytes None → list_any (λ b. b == 10) bytes ≡ false
unbroken_only bytes f =
    rw (take_all (length bytes) bytes (omega arith)) at (unbroken (length bytes) bytes (λ j l. f j (omega arith) l) (omega arith))
