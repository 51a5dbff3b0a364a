-- The two parts of a value are the value, and each fits its field.
use Rattle.std.proofs.Common.{◌≡◌, ℕ, ℤ, pos, negsuc, suc, ◌+◌, ◌*◌, ◌-◌, ◌^◌, ◌%◌, ◌/◌, ◌<◌, ◌+ℤ◌, ◌*ℤ◌, ◌-ℤ◌, ◌≤ℤ◌, arith, refl, sym, ap, ◌∙◌}
use Rattle.std.specs.Prelude.{unsigned_abs}
use Rattle.std.proofs.lemmas.Int.{ints, int_rem_euclid_is}
use Rattle.rv_stmt.specs.ValueParts.{word_bits, high_part, low_part}

word_is : (z : ℤ) (k m : ℕ) → z +ℤ pos (k * 2 ^ 32) ≡ pos m → word_bits z ≡ m % 2 ^ 32
word_is z k m e = ap unsigned_abs (int_rem_euclid_is z (pos (2 ^ 32)) (2 ^ 32) k m (omega arith) refl e)

-- a number and a multiple of 2 ^ 32 that make a natural number
record Lift (z : ℤ) : Type 0 where
  k : ℕ
  m : ℕ
  is : z +ℤ pos (k * 2 ^ 32) ≡ pos m

lift : (z : ℤ) → Lift z
lift (pos n) = record { k = 0; m = n; is = omega (arith, ints) }
lift (negsuc n) = record { k = n / 2 ^ 32 + 1; m = (n / 2 ^ 32 + 1) * 2 ^ 32 - suc n; is = omega (arith, ints) }

small_sum : (h l : ℕ) → pos h *ℤ pos 0x1000 +ℤ (pos l -ℤ pos 0x800) ≡ pos (h * 0x1000 + l) -ℤ pos 0x800
small_sum h l = omega (arith, ints)

pub parts_are_value : (v : ℤ) → word_bits (high_part v *ℤ pos 0x1000 +ℤ low_part v) ≡ word_bits v
parts_are_value v =
    let w = lift v in
    let b = word_bits (v +ℤ pos 0x800) in
    let rounded : b ≡ (w.m + 0x800) % 2 ^ 32 = word_is (v +ℤ pos 0x800) w.k (w.m + 0x800) (omega (arith, ints, w.is)) in
    let whole : b / 2 ^ 12 * 0x1000 + b % 2 ^ 12 ≡ b = omega arith in
    let sum : high_part v *ℤ pos 0x1000 +ℤ low_part v ≡ pos b -ℤ pos 0x800 = small_sum (b / 2 ^ 12) (b % 2 ^ 12) ∙ ap (λ n. pos n -ℤ pos 0x800) whole in
    let back : word_bits (pos b -ℤ pos 0x800) ≡ (b + 2 ^ 32 - 0x800) % 2 ^ 32 = word_is (pos b -ℤ pos 0x800) 1 (b + 2 ^ 32 - 0x800) (omega (arith, ints)) in
    let same : (b + 2 ^ 32 - 0x800) % 2 ^ 32 ≡ w.m % 2 ^ 32 = omega (arith, rounded) in
    ap word_bits sum ∙ back ∙ same ∙ sym (word_is v w.k w.m w.is)

pub low_least : (v : ℤ) → negsuc 2047 ≤ℤ low_part v
low_least v = let n = word_bits (v +ℤ pos 0x800) % 2 ^ 12 in omega (arith, ints)

pub low_greatest : (v : ℤ) → low_part v ≤ℤ pos 2047
low_greatest v = let n = word_bits (v +ℤ pos 0x800) % 2 ^ 12 in let h : n < 2 ^ 12 = omega arith in omega (arith, ints)
