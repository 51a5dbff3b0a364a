-- What stands first in a stretch of bytes.
use Rattle.std.proofs.Common.{◌≡◌, ℕ, ◌≤◌, List, [], ◌∷◌, length, drop, sym, refl, subst, arith}
use Rattle.std.specs.Prelude.{slice_index}
use Rattle.std.proofs.lemmas.List.{length-drop}
use Rattle.std.specs.Int.{from_le_bytes, w16}
use Rattle.rv_ops.specs.declared.op.Op.{Op}
use Rattle.rv_code.specs.declared.instruction.Fields.{Fields}
use Rattle.rv_code.specs.declared.word.Word.{Word}
use Rattle.rv_code.specs.declared.word.Word.TheVariants.{Half, Full}
use Rattle.rv_code.specs.Encoding.{word_of}
use Rattle.rv_dis.specs.declared.row.DisRow.{DisRow}
use Rattle.rv_dis.specs.Rows.{instruction_row, half_row, byte_row, word_size, StandsFirst, Begins, further, IsFirst, Shows, ended, shown, half, byte}

word_fits : (w : Word) (bytes : List ℕ) → StandsFirst w bytes → (1 ≤ word_size w) × (word_size w ≤ length bytes)
word_fits (Half n) bytes h = (omega arith, h.0)
word_fits (Full n) bytes h = (omega arith, h.0)

instruction_first : (a : ℕ) (o : Op) (f : Fields) (bytes : List ℕ) → Begins o f bytes → IsFirst a bytes (instruction_row a o f)
instruction_first a o f bytes h =
    let fits = word_fits (word_of o f) bytes h.word in
    record { some = fits.0; within = fits.1; next = λ rows next. shown a o f bytes rows h next }

half_first : (a : ℕ) (bytes : List ℕ) → 2 ≤ length bytes → ((o : Op) (f : Fields) → Begins o f bytes → ⊥) → IsFirst a bytes (half_row a (from_le_bytes w16 bytes))
half_first a bytes two none = record { some = omega arith; within = two; next = λ rows next. half a bytes rows two none next }

pub instruction_shown : (row : DisRow) (a : ℕ) (o : Op) (f : Fields) (bytes : List ℕ) → Begins o f bytes → row ≡ instruction_row a o f → IsFirst a bytes row
instruction_shown row a o f bytes h e = subst (λ row. IsFirst a bytes row) (sym e) (instruction_first a o f bytes h)

pub half_shown : (row : DisRow) (a n : ℕ) (bytes : List ℕ) → 2 ≤ length bytes → ((o : Op) (f : Fields) → Begins o f bytes → ⊥) → n ≡ from_le_bytes w16 bytes → row ≡ half_row a n → IsFirst a bytes row
half_shown row a n bytes two none read e =
    subst (λ row. IsFirst a bytes row) (sym e) (subst (λ n. IsFirst a bytes (half_row a n)) (sym read) (half_first a bytes two none))

-- no bytes have no rows
none_shown : (a : ℕ) (bytes : List ℕ) (rows : List DisRow) → length bytes ≡ 0 → Shows a bytes rows → rows ≡ []
none_shown a bytes rows none (ended _) = refl
none_shown a bytes _ none (shown _ o f _ rows first next) = let fits = word_fits (word_of o f) bytes first.word in absurd (omega (arith, fits.0, fits.1))
none_shown a bytes _ none (half _ _ rows two no_word next) = absurd (omega arith)
none_shown a bytes _ none (byte _ _ one) = absurd (omega arith)

byte_first : (a : ℕ) (bytes : List ℕ) → length bytes ≡ 1 → IsFirst a bytes (byte_row a (slice_index bytes 0))
byte_first a bytes one = record {
  some = omega arith;
  within = omega arith;
  next = λ rows next. subst (λ rows. Shows a bytes (byte_row a (slice_index bytes 0) ∷ rows)) (sym (none_shown (further a 1) (drop 1 bytes) rows (omega (arith, length-drop 1 bytes)) next)) (byte a bytes one);
}

pub byte_shown : (row : DisRow) (a : ℕ) (bytes : List ℕ) → length bytes ≡ 1 → row ≡ byte_row a (slice_index bytes 0) → IsFirst a bytes row
byte_shown row a bytes one e = subst (λ row. IsFirst a bytes row) (sym e) (byte_first a bytes one)

pub nothing_left : (a : ℕ) (bytes : List ℕ) → length bytes ≡ 0 → Shows a bytes []
nothing_left a [] h = ended a
nothing_left a (b ∷ bs) h = absurd (omega arith)
