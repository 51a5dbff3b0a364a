-- The rows of a stretch give its bytes again.
use Rattle.std.proofs.Common.{◌≡◌, ℕ, zero, suc, ◌+◌, ◌^◌, ◌<◌, List, [], ◌∷◌, ◌++◌, length, take, drop, get_or-drop, refl, arith, ap, ◌∙◌}
use Rattle.std.specs.Prelude.{slice_index, All}
use Rattle.std.specs.Int.{from_le_bytes, w16}
use Rattle.std.proofs.lemmas.List.{take-append-drop}
use Rattle.std.proofs.lemmas.List.Elements.{All-nil}
use Rattle.std.proofs.lemmas.Nat.{le_bytes_2, le_bytes_4}
use Rattle.rv_ops.specs.declared.op.Op.{Op}
use Rattle.rv_code.specs.declared.instruction.Fields.{Fields}
use Rattle.rv_code.specs.declared.word.Word.{Word}
use Rattle.rv_code.specs.declared.word.Word.TheVariants.{Half, Full}
use Rattle.rv_code.specs.Encoding.{Fits, word_of}
use Rattle.rv_dis.specs.declared.row.DisRow.{DisRow}
use Rattle.rv_dis.specs.Assembling.{row_bytes, Assembles, AreBytes, GiveBytes}
use Rattle.rv_dis.specs.Rows.{instruction_row, half_row, byte_row, word_size, word_value, StandsFirst, Shows, ended, shown, half, byte}

dropped : (n : ℕ) (bytes : List ℕ) → AreBytes bytes → AreBytes (drop n bytes)
dropped n bytes h i = rw get_or-drop (h (n + i))

two_below : (x y : ℕ) → x < 256 → y < 256 → AreBytes (x ∷ y ∷ [])
two_below x y p q zero = p
two_below x y p q (suc zero) = q
two_below x y p q (suc (suc i)) = omega arith

four_below : (x y z w : ℕ) → x < 256 → y < 256 → z < 256 → w < 256 → AreBytes (x ∷ y ∷ z ∷ w ∷ [])
four_below x y z w p q r s zero = p
four_below x y z w p q r s (suc zero) = q
four_below x y z w p q r s (suc (suc i)) = two_below z w r s i

-- the bytes of a row, by its number and how many they are
abbrev bytes_of : (size value : ℕ) → List ℕ
bytes_of size value = row_bytes (record { address = 0; value = value; len = size; text = [] })

-- the bytes of a word are those that it was read from
first_bytes : (w : Word) (bytes : List ℕ) → AreBytes bytes → StandsFirst w bytes → bytes_of (word_size w) (word_value w) ≡ take (word_size w) bytes
first_bytes (Half n) [] h first = absurd (omega (arith, first.0))
first_bytes (Half n) (x ∷ []) h first = absurd (omega (arith, first.0))
first_bytes (Half n) (x ∷ y ∷ bs) h first = le_bytes_2 (x ∷ y ∷ []) n refl (two_below x y (h 0) (h 1)) first.1
first_bytes (Full n) [] h first = absurd (omega (arith, first.0))
first_bytes (Full n) (x ∷ []) h first = absurd (omega (arith, first.0))
first_bytes (Full n) (x ∷ y ∷ []) h first = absurd (omega (arith, first.0))
first_bytes (Full n) (x ∷ y ∷ z ∷ []) h first = absurd (omega (arith, first.0))
first_bytes (Full n) (x ∷ y ∷ z ∷ w ∷ bs) h first =
    le_bytes_4 (x ∷ y ∷ z ∷ w ∷ []) n refl (four_below x y z w (h 0) (h 1) (h 2) (h 3)) first.1

last_byte : (bytes : List ℕ) → AreBytes bytes → length bytes ≡ 1 → bytes_of 1 (slice_index bytes 0) ≡ bytes
last_byte [] h one = absurd (omega arith)
last_byte (x ∷ []) h one = let small = h 0 in ap (λ n. n ∷ []) (omega arith)
last_byte (x ∷ y ∷ bs) h one = absurd (omega arith)

half_below : (bytes : List ℕ) → AreBytes bytes → from_le_bytes w16 bytes < 2 ^ 16
half_below bytes h = let first = h 0 in let second = h 1 in omega arith

all_more : (r : DisRow) (rows : List DisRow) → Assembles r → All Assembles rows → All Assembles (r ∷ rows)
all_more r rows first others zero d l = first
all_more r rows first others (suc k) d l = others k d (omega arith)

-- one row before others
one_more : (r : DisRow) (rows : List DisRow) (size : ℕ) (bytes : List ℕ) → Assembles r → row_bytes r ≡ take size bytes → GiveBytes rows (drop size bytes) → GiveBytes (r ∷ rows) bytes
one_more r rows size bytes first e others = record {
  each = all_more r rows first others.each;
  together = ap (λ x. row_bytes r ++ x) others.together ∙ ap (λ x. x ++ drop size bytes) e ∙ take-append-drop size bytes;
}

-- each kind of row assembles to its own bytes
module _ (instruction_assembles : (a : ℕ) (o : Op) (f : Fields) → a < 2 ^ 32 → Fits o f → Assembles (instruction_row a o f)) (half_assembles : (a n : ℕ) → n < 2 ^ 16 → Assembles (half_row a n)) (byte_assembles : (a n : ℕ) → n < 2 ^ 8 → Assembles (byte_row a n)) where
  given : {a : ℕ} {bytes : List ℕ} {rows : List DisRow} → a < 2 ^ 32 → AreBytes bytes → Shows a bytes rows → GiveBytes rows bytes
  given small h (ended a) = record { each = All-nil Assembles; together = refl }
  given small h (shown a o f bytes rows first next) =
      let size = word_size (word_of o f) in
      one_more (instruction_row a o f) rows size bytes (instruction_assembles a o f small first.fits) (first_bytes (word_of o f) bytes h first.word) (given (omega arith) (dropped size bytes h) next)
  given small h (half a bytes rows two none next) =
      let value = from_le_bytes w16 bytes in
      one_more (half_row a value) rows 2 bytes (half_assembles a value (half_below bytes h)) (first_bytes (Half value) bytes h (two, refl)) (given (omega arith) (dropped 2 bytes h) next)
  given small h (byte a bytes one) =
      let first = h 0 in
      let value = slice_index bytes 0 in
      record {
        each = all_more (byte_row a value) [] (byte_assembles a value (omega arith)) (All-nil Assembles);
        together = last_byte bytes h one;
      }

  pub give : (a : ℕ) (bytes : List ℕ) (rows : List DisRow) → a < 2 ^ 32 → AreBytes bytes → Shows a bytes rows → GiveBytes rows bytes
  give a bytes rows = given
