-- A stretch of bytes has one list of rows at most.
use Rattle.std.proofs.Common.{◌≡◌, ℕ, ◌%◌, ◌≤◌, List, [], ◌∷◌, length, drop, sym, ap, ◌∙◌, refl, subst, arith}
use Rattle.std.specs.Int.{from_le_bytes, w16, w32}
use Rattle.rv_ops.specs.declared.op.Op.{Op}
use Rattle.rv_code.specs.declared.instruction.Fields.{Fields}
use Rattle.rv_code.specs.declared.word.Word.{Word}
use Rattle.rv_code.specs.declared.word.Word.TheVariants.{Half, Full}
use Rattle.rv_code.specs.Encoding.{Fits, word_of}
use Rattle.rv_dis.specs.declared.row.DisRow.{DisRow}
use Rattle.rv_dis.specs.Rows.{instruction_row, half_row, word_size, StandsFirst, Begins, further, Shows, ended, shown, half, byte}

-- the low bits, which tell the length of a word
low_bits : (bytes : List ℕ) → from_le_bytes w32 bytes % 4 ≡ from_le_bytes w16 bytes % 4
low_bits bytes = omega arith

two_at_least : (w : Word) (bytes : List ℕ) → StandsFirst w bytes → 2 ≤ length bytes
two_at_least (Half n) bytes h = h.0
two_at_least (Full n) bytes h = omega (arith, h.0)

abbrev Instruction : Type 0
Instruction = Op × Fields

abbrev row_of : ℕ → Instruction → DisRow
row_of a i = instruction_row a i.0 i.1

abbrev size_of : Instruction → ℕ
size_of i = word_size (word_of i.0 i.1)

-- the same rows after as many bytes
moved : (a n m : ℕ) (bytes : List ℕ) (rows : List DisRow) → m ≡ n → Shows (further a m) (drop m bytes) rows → Shows (further a n) (drop n bytes) rows
moved a n m bytes rows e h = subst (λ k. Shows (further a k) (drop k bytes) rows) e h

-- what holds of words: no two instructions have one in common, and the low bits tell its length
module _ (one : (o p : Op) (f g : Fields) → Fits o f → Fits p g → word_of o f ≡ word_of p g → ◌≡◌ {A = Instruction} (o, f) (p, g)) (low_of_full : (o : Op) (f : Fields) (n : ℕ) → Fits o f → word_of o f ≡ Full n → n % 4 ≡ 3) (low_of_half : (o : Op) (f : Fields) (n : ℕ) → Fits o f → word_of o f ≡ Half n → n % 4 ≡ 3 → ⊥) where
  lengths_apart : (o p : Op) (f g : Fields) (n m : ℕ) → Fits o f → Fits p g → word_of o f ≡ Full n → word_of p g ≡ Half m → n % 4 ≡ m % 4 → ⊥
  lengths_apart o p f g n m hf hg e d low = low_of_half p g m hg d (sym low ∙ low_of_full o f n hf e)

  same_word : (o p : Op) (f g : Fields) (v w : Word) (bytes : List ℕ) → Fits o f → Fits p g → word_of o f ≡ v → word_of p g ≡ w → StandsFirst v bytes → StandsFirst w bytes → v ≡ w
  same_word o p f g (Half n) (Half m) bytes hf hg e d first other = ap Half (first.1 ∙ sym other.1)
  same_word o p f g (Full n) (Full m) bytes hf hg e d first other = ap Full (first.1 ∙ sym other.1)
  same_word o p f g (Full n) (Half m) bytes hf hg e d first other =
      absurd (lengths_apart o p f g n m hf hg e d (ap (λ x. x % 4) first.1 ∙ low_bits bytes ∙ ap (λ x. x % 4) (sym other.1)))
  same_word o p f g (Half n) (Full m) bytes hf hg e d first other =
      absurd (lengths_apart p o g f m n hg hf d e (ap (λ x. x % 4) other.1 ∙ low_bits bytes ∙ ap (λ x. x % 4) (sym first.1)))

  -- one instruction stands first, if any
  one_first : (o p : Op) (f g : Fields) (bytes : List ℕ) → Begins o f bytes → Begins p g bytes → ◌≡◌ {A = Instruction} (o, f) (p, g)
  one_first o p f g bytes h k =
      one o p f g h.fits k.fits (same_word o p f g (word_of o f) (word_of p g) bytes h.fits k.fits refl refl h.word k.word)

  pub one_reading : {a : ℕ} {bytes : List ℕ} {rows others : List DisRow} → Shows a bytes rows → Shows a bytes others → rows ≡ others
  one_reading (ended a) (ended _) = refl
  one_reading (ended a) (shown _ o f _ rows first next) = absurd (omega (arith, two_at_least (word_of o f) [] first.word))
  one_reading (ended a) (half _ _ rows two none next) = absurd (omega arith)
  one_reading (ended a) (byte _ _ one_byte) = absurd (omega arith)
  one_reading (shown a o f _ rows first next) (ended _) = absurd (omega (arith, two_at_least (word_of o f) [] first.word))
  one_reading (shown a o f bytes rows first next) (shown _ p g _ others other after) =
      let same = one_first o p f g bytes first other in
      ap (λ i. row_of a i ∷ rows) same
      ∙ ap (λ rows. row_of a (p, g) ∷ rows) (one_reading next (moved a (size_of (o, f)) (size_of (p, g)) bytes others (sym (ap size_of same)) after))
  one_reading (shown a o f bytes rows first next) (half _ _ others two none after) = absurd (none o f first)
  one_reading (shown a o f bytes rows first next) (byte _ _ one_byte) = absurd (omega (arith, two_at_least (word_of o f) bytes first.word))
  one_reading (half a _ rows two none next) (ended _) = absurd (omega arith)
  one_reading (half a bytes rows two none next) (shown _ p g _ others other after) = absurd (none p g other)
  one_reading (half a bytes rows two none next) (half _ _ others two' none' after) =
      ap (λ rows. half_row a (from_le_bytes w16 bytes) ∷ rows) (one_reading next after)
  one_reading (half a bytes rows two none next) (byte _ _ one_byte) = absurd (omega arith)
  one_reading (byte a _ one_byte) (ended _) = absurd (omega arith)
  one_reading (byte a bytes one_byte) (shown _ p g _ others other after) = absurd (omega (arith, two_at_least (word_of p g) bytes other.word))
  one_reading (byte a bytes one_byte) (half _ _ others two none after) = absurd (omega arith)
  one_reading (byte a bytes one_byte) (byte _ _ one_byte') = refl
