-- The lines of a file, however they are found.
use Rattle.std.proofs.Common.{◌≡◌, ◌⊎◌, inl, inr, ℕ, ◌<◌, Bool, true, false, ◌||◌, List, [], ◌∷◌, ◌++◌, length, refl, ap, sym, ◌∙◌, arith}
use Rattle.std.specs.Prelude.{nat_eq}
use Rattle.std.specs.List.{list_any, slice_split, onto_first}
use Rattle.std.proofs.lemmas.Bool.Decides.{nat_tests}
use Rattle.std.proofs.lemmas.List.Splits.{length-slice_split}
use Rattle.rv_files.specs.Lines.{is_line_break, without_empty_last, lines_of, AreLinesOf}

both_false : (a b : Bool) → (a || b) ≡ false → (a ≡ false) × (b ≡ false)
both_false true b e = cc
both_false false b e = (refl, e)

keep_first : (part : List ℕ) (parts : List (List ℕ)) → 0 < length parts → without_empty_last (part ∷ parts) ≡ part ∷ without_empty_last parts
keep_first part [] some = absurd (omega (arith, some))
keep_first part (p ∷ ps) some = refl

-- a line break ends the first part
split_ended : (line rest : List ℕ) → list_any is_line_break line ≡ false → slice_split is_line_break (line ++ 10 ∷ rest) ≡ line ∷ slice_split is_line_break rest
split_ended [] rest e = refl
split_ended (b ∷ line) rest e =
    let parts = both_false (nat_eq b 10) (list_any is_line_break line) e in
    rw (parts.0, split_ended line rest parts.1) refl

split_unended : (line : List ℕ) → list_any is_line_break line ≡ false → slice_split is_line_break line ≡ line ∷ []
split_unended [] e = refl
split_unended (b ∷ line) e =
    let parts = both_false (nat_eq b 10) (list_any is_line_break line) e in
    rw (parts.0, split_unended line parts.1) refl

some_parts : (bytes : List ℕ) → 0 < length (slice_split is_line_break bytes)
some_parts bytes = omega (arith, length-slice_split is_line_break bytes)

-- the first line ends at the first line break
pub lines_ended : (line rest : List ℕ) → list_any is_line_break line ≡ false → lines_of (line ++ 10 ∷ rest) ≡ line ∷ lines_of rest
lines_ended line rest e =
    ap without_empty_last (split_ended line rest e) ∙ keep_first line (slice_split is_line_break rest) (some_parts rest)

-- without a line break some bytes are one line
pub lines_unended : (line : List ℕ) → list_any is_line_break line ≡ false → 0 < length line → lines_of line ≡ line ∷ []
lines_unended [] e some = absurd (omega (arith, some))
lines_unended (b ∷ line) e some = ap without_empty_last (split_unended (b ∷ line) e)

-- no other list is
pub only_lines : (file : List ℕ) (lines : List (List ℕ)) → AreLinesOf file lines → lines ≡ lines_of file
only_lines file [] none = sym (ap lines_of none)
only_lines file (line ∷ later) are = at (λ rest those. only_lines rest later those) are.1
  where
    at : ((rest : List ℕ) → AreLinesOf rest later → later ≡ lines_of rest) → ((rest : List ℕ) × (file ≡ line ++ 10 ∷ rest) × AreLinesOf rest later) ⊎ ((file ≡ line) × (0 < length line) × (later ≡ [])) → line ∷ later ≡ lines_of file
    at only (inl ended) =
        ap (λ l. line ∷ l) (only ended.0 ended.2) ∙ sym (lines_ended line ended.0 are.0) ∙ sym (ap lines_of ended.1)
    at only (inr last) =
        ap (λ l. line ∷ l) last.2 ∙ sym (lines_unended line are.0 last.1) ∙ sym (ap lines_of last.0)

-- a byte before a file that is no line break
put_before : (b : ℕ) (parts : List (List ℕ)) → 0 < length parts → without_empty_last (onto_first b parts) ≡ onto_first b (without_empty_last parts)
put_before b [] some = absurd (omega (arith, some))
put_before b ([] ∷ []) some = refl
put_before b ((x ∷ xs) ∷ []) some = refl
put_before b ([] ∷ (q ∷ qs)) some = refl
put_before b ((x ∷ xs) ∷ (q ∷ qs)) some = refl

lines_byte : (b : ℕ) (bytes : List ℕ) → nat_eq b 10 ≡ false → lines_of (b ∷ bytes) ≡ onto_first b (lines_of bytes)
lines_byte b bytes other = rw other (put_before b (slice_split is_line_break bytes) (some_parts bytes))

-- the first line is longer by this byte
longer : (b : ℕ) (bytes : List ℕ) (lines : List (List ℕ)) → nat_eq b 10 ≡ false → AreLinesOf bytes lines → AreLinesOf (b ∷ bytes) (onto_first b lines)
longer b bytes [] other none = (rw other refl, inr (ap (λ l. b ∷ l) none, omega arith, refl))
longer b bytes (line ∷ later) other are = (rw (other, are.0) refl, at are.1)
  where
    at : ((rest : List ℕ) × (bytes ≡ line ++ 10 ∷ rest) × AreLinesOf rest later) ⊎ ((bytes ≡ line) × (0 < length line) × (later ≡ [])) → ((rest : List ℕ) × (b ∷ bytes ≡ (b ∷ line) ++ 10 ∷ rest) × AreLinesOf rest later) ⊎ ((b ∷ bytes ≡ b ∷ line) × (0 < length (b ∷ line)) × (later ≡ []))
    at (inl ended) = inl (ended.0, ap (λ l. b ∷ l) ended.1, ended.2)
    at (inr last) = inr (ap (λ l. b ∷ l) last.0, omega arith, last.2)

pub are_lines : (file : List ℕ) → AreLinesOf file (lines_of file)
are_lines [] = refl
are_lines (b ∷ bytes) = at (are_lines bytes) (nat_eq b 10) refl
  where
    at : AreLinesOf bytes (lines_of bytes) → (broken : Bool) → nat_eq b 10 ≡ broken → AreLinesOf (b ∷ bytes) (lines_of (b ∷ bytes))
    at are true e =
        let break : 10 ≡ b = grind (arith, nat_tests, e) in
        let more : [] ∷ lines_of bytes ≡ lines_of (10 ∷ bytes) = sym (lines_ended [] bytes refl) in
        rw (← break, ← more) (refl, inl (bytes, refl, are))
    at are false e = rw (lines_byte b bytes e) (longer b bytes (lines_of bytes) e are)
