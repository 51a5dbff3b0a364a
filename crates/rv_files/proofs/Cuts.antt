-- How line breaks cut a file.
use Rattle.std.proofs.Common.{◌≡◌, ℕ, zero, suc, ◌<◌, Bool, true, false, ◌||◌, List, [], ◌∷◌, ◌++◌, length, take, drop, refl, ap, ◌∙◌, arith, subst}
use Rattle.std.specs.Prelude.{nat_eq, Some, None, slice_index}
use Rattle.std.specs.List.{list_any}
use Rattle.std.proofs.lemmas.List.{take_all}
use Rattle.memchr.specs.Find.{IsFirstByte, is_byte}
use Rattle.rv_files.specs.Lines.{is_line_break, lines_of}
use Rattle.rv_files.proofs.LineLaw.{lines_ended, lines_unended}

or_false : (a b : Bool) → (a ≡ true → ⊥) → b ≡ false → (a || b) ≡ false
or_false true b h e = absurd (h refl)
or_false false b h e = e

unbroken_take : (n : ℕ) (bytes : List ℕ) → ((k : ℕ) → k < n → nat_eq (slice_index bytes k) 10 ≡ true → ⊥) → list_any is_line_break (take n bytes) ≡ false
unbroken_take zero bytes h = refl
unbroken_take (suc n) [] h = refl
unbroken_take (suc n) (b ∷ bytes) h = or_false (nat_eq b 10) (list_any is_line_break (take n bytes)) (h 0 (omega arith)) (unbroken_take n bytes (λ k lt. h (suc k) (omega arith)))

-- no line break stands before the first one
pub unbroken_before : (bytes : List ℕ) (at : ℕ) → IsFirstByte (is_byte 10) bytes (Some at) → list_any is_line_break (take at bytes) ≡ false
unbroken_before bytes at f = unbroken_take at bytes (λ k lt. f.0.before k (omega arith) lt)

-- where no line break is found there is none
pub unbroken_none : (bytes : List ℕ) → IsFirstByte (is_byte 10) bytes None → list_any is_line_break bytes ≡ false
unbroken_none bytes f =
    let whole : take (length bytes) bytes ≡ bytes = take_all (length bytes) bytes (omega arith) in
    subst (λ l. list_any is_line_break l ≡ false) whole (unbroken_take (length bytes) bytes (λ k lt. f k (omega arith) lt))

cut_at : (at : ℕ) (bytes : List ℕ) → at < length bytes → nat_eq (slice_index bytes at) 10 ≡ true → bytes ≡ take at bytes ++ 10 ∷ drop 1 (drop at bytes)
cut_at at [] within e = absurd (omega (arith, within))
cut_at zero (b ∷ bytes) within e = let same : b ≡ 10 = grind arith in rw same refl
cut_at (suc at) (b ∷ bytes) within e = ap (λ l. b ∷ l) (cut_at at bytes (omega (arith, within)) e)

-- the first line ends at the first line break
pub first_line : (bytes : List ℕ) (at : ℕ) → IsFirstByte (is_byte 10) bytes (Some at) → lines_of bytes ≡ take at bytes ∷ lines_of (drop 1 (drop at bytes))
first_line bytes at f =
    ap lines_of (cut_at at bytes f.0.high f.1) ∙ lines_ended (take at bytes) (drop 1 (drop at bytes)) (unbroken_before bytes at f)

-- without a line break some bytes are the last line
pub last_line : (bytes : List ℕ) → IsFirstByte (is_byte 10) bytes None → 0 < length bytes → lines_of bytes ≡ bytes ∷ []
last_line bytes f some = lines_unended bytes (unbroken_none bytes f) some
