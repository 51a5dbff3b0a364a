-- The texts of files are within the limits, and hold bytes.
use Rattle.std.proofs.Common.{◌≡◌, ℕ, ◌+◌, ◌<◌, ◌≤◌, ◌⊎◌, inl, inr, Bool, true, false, List, [], ◌∷◌, ◌++◌, length, Some, None, refl, sym, arith, subst}
use Rattle.std.specs.Prelude.{All, nat_lt, if◌then◌else◌}
use Rattle.std.proofs.Math.Seq.{take-append_seam, drop-append_seam}
use Rattle.std.proofs.lemmas.Bool.{ltb-false}
use Rattle.std.proofs.lemmas.List.Elements.{All-nil, All-cons}
use Rattle.rv_text.specs.declared.lexeme.TheConstants.{MAX_LINE_LENGTH}
use Rattle.rv_program.specs.declared.limits.TheConstants.{MAX_LINES}
use Rattle.rv_files.specs.declared.limits.LoadError.TheVariants.{LineTooLong, TooManyLines}
use Rattle.rv_files.specs.Lines.{lines_of, AreLinesOf}
use Rattle.rv_files.specs.Loading.{refusal_from}
use Rattle.rv_files.specs.Segments.{AreBytes}
use Rattle.rv_files.proofs.Bytes.{bytes_take, bytes_drop}
use Rattle.rv_files.proofs.LineLaw.{are_lines}

abbrev IsShort : List ℕ → Type 0
IsShort line = length line ≤ MAX_LINE_LENGTH

-- lines that are few enough from a number on, and short
pub record AreTaken (number : ℕ) (lines : List (List ℕ)) : Type 0 where
  pub few : number + length lines ≤ MAX_LINES + 1
  pub short : All IsShort lines

-- so are the lines behind the first
abbrev Next : (number : ℕ) → (later : List (List ℕ)) → Type 0
Next number later = number + 1 ≤ MAX_LINES + 1 → refusal_from (number + 1) later ≡ None → AreTaken (number + 1) later

pub taken_from : (number : ℕ) (lines : List (List ℕ)) → number ≤ MAX_LINES + 1 → refusal_from number lines ≡ None → AreTaken number lines
taken_from number [] within none = record { few = omega (arith, within); short = All-nil IsShort }
taken_from number (line ∷ later) within none = many (nat_lt MAX_LINES number) refl none (taken_from (number + 1) later)
  where
    long : number ≤ MAX_LINES → (b : Bool) → nat_lt MAX_LINE_LENGTH (length line) ≡ b → (if b then Some (LineTooLong number) else refusal_from (number + 1) later) ≡ None → Next number later → AreTaken number (line ∷ later)
    long few true e none next = absurd (let other : Some (LineTooLong number) ≡ None = none in cc)
    long few false e none next =
        let rest = next (omega (arith, few)) none in
        record { few = omega (arith, rest.few); short = All-cons IsShort line later (ltb-false MAX_LINE_LENGTH (length line) e) rest.short }

    many : (b : Bool) → nat_lt MAX_LINES number ≡ b → (if b then Some TooManyLines else (if nat_lt MAX_LINE_LENGTH (length line) then Some (LineTooLong number) else refusal_from (number + 1) later)) ≡ None → Next number later → AreTaken number (line ∷ later)
    many true e none next = absurd (let other : Some TooManyLines ≡ None = none in cc)
    many false e none next = long (ltb-false MAX_LINES number e) (nat_lt MAX_LINE_LENGTH (length line)) refl none next

-- Bytes

bytes_first : (xs ys : List ℕ) → AreBytes (xs ++ ys) → AreBytes xs
bytes_first xs ys h = subst AreBytes (take-append_seam xs ys) (bytes_take (length xs) (xs ++ ys) h)

bytes_last : (xs ys : List ℕ) → AreBytes (xs ++ ys) → AreBytes ys
bytes_last xs ys h = subst AreBytes (drop-append_seam xs ys) (bytes_drop (length xs) (xs ++ ys) h)

bytes_of_lines : (file : List ℕ) (lines : List (List ℕ)) → AreLinesOf file lines → AreBytes file → All AreBytes lines
bytes_of_lines file [] are h = All-nil AreBytes
bytes_of_lines file (line ∷ later) are h = at are.1 (λ rest those. bytes_of_lines rest later those)
  where
    at : ((rest : List ℕ) × (file ≡ line ++ 10 ∷ rest) × AreLinesOf rest later) ⊎ ((file ≡ line) × (0 < length line) × (later ≡ [])) → ((rest : List ℕ) → AreLinesOf rest later → AreBytes rest → All AreBytes later) → All AreBytes (line ∷ later)
    at (inl ended) next =
        let whole : AreBytes (line ++ 10 ∷ ended.0) = subst AreBytes ended.1 h in
        let rest : AreBytes ended.0 = bytes_drop 1 (10 ∷ ended.0) (bytes_last line (10 ∷ ended.0) whole) in
        All-cons AreBytes line later (bytes_first line (10 ∷ ended.0) whole) (next ended.0 ended.2 rest)
    at (inr last) next = All-cons AreBytes line later (subst AreBytes last.0 h) (subst (All AreBytes) (sym last.2) (All-nil AreBytes))

pub lines_hold_bytes : (file : List ℕ) → AreBytes file → All AreBytes (lines_of file)
lines_hold_bytes file h = bytes_of_lines file (lines_of file) (are_lines file) h
