-- The values of an instruction's operands are its fields.
use Rattle.std.proofs.Common.{◌≡◌, ℕ, ℤ, pos, negsuc, suc, ◌+◌, ◌-◌, ◌<◌, ◌%◌, ◌^◌, ◌-ℤ◌, ◌≤ℤ◌, true, false, List, ◌∷◌, None, Ok, refl, ap, ◌∙◌, sym, arith, lt-ltb}
use Rattle.std.specs.Prelude.{◌==◌, ◌&&◌, unsigned_abs, int_le, FitsSigned}
use Rattle.std.specs.Int.{cast_unsigned, cast_signed, int_rem_euclid, w32}
use Rattle.std.proofs.lemmas.Bool.{eqb-true}
use Rattle.std.proofs.lemmas.Bool.Decides.{nat_tests}
use Rattle.std.proofs.lemmas.Int.{ints, int_rem_euclid_is, to_z-of_z}
use Rattle.rv_ops.specs.declared.value_limits.Limits.{Limits}
use Rattle.rv_ops.specs.Limits.{limit_fault}
use Rattle.rv_code.specs.declared.instruction.Fields.{Fields}
use Rattle.rv_expr.specs.Value.{Environment, value_of}
use Rattle.rv_stmt.specs.declared.operand.Operand.{Operand}
use Rattle.rv_stmt.specs.declared.operand.Role.TheVariants.{Immediate, SourceImmediate}
use Rattle.rv_stmt.specs.Draft.{fields}
use Rattle.rv_stmt.specs.Readings.{Reading}
use Rattle.rv_stmt.specs.ValueParts.{word_bits, signed_word}
use Rattle.rv_fix.specs.Alone.{has_names}
use Rattle.rv_fix.specs.Displacements.{displacement}
use Rattle.rv_fix.specs.Filling.{with_number, filled}
use Rattle.rv_fix.specs.Values.{Entry}
use Rattle.rv_dis.specs.Text.{target_of}
use Rattle.rv_dis.proofs.OperandReadings.{value_tree}

-- values of at most 21 bits with a sign, as those of all operations are
pub record IsShort (v : ℤ) : Type 0 where
  pub low : negsuc 1048575 ≤ℤ v
  pub high : v ≤ℤ pos 1048575

pub short_magnitude : (v : ℤ) → IsShort v → unsigned_abs v < 2 ^ 32
short_magnitude (pos n) h = omega (arith, ints, h.high)
short_magnitude (negsuc n) h = omega (arith, ints, h.low)

-- the number that a value's tree is
pub value_is : (given : Environment) (v : ℤ) → unsigned_abs v < 2 ^ 32 → value_of given (value_tree v) ≡ Ok v
value_is given (pos n) h = refl
value_is given (negsuc n) h = let small : n < 2 ^ 63 = omega arith in rw (lt-ltb n (2 ^ 63) small) refl

pub value_nameless : (v : ℤ) → has_names (value_tree v) ≡ false
value_nameless (pos n) = refl
value_nameless (negsuc n) = refl

pub not_negative : (v : ℤ) → pos 0 ≤ℤ v → pos (unsigned_abs v) ≡ v
not_negative (pos n) h = refl
not_negative (negsuc n) h = absurd (omega (arith, ints))

-- fields that are absent
pub no_value : (v : ℤ) → pos 0 ≤ℤ v → v ≤ℤ pos 0 → pos 0 ≡ v
no_value (pos n) low high = let e : 0 ≡ n = omega (arith, ints) in ap pos e
no_value (negsuc n) low high = absurd (omega (arith, ints))

pub no_register : (n : ℕ) → (n == 0) ≡ true → 0 ≡ n
no_register n h = sym (eqb-true n 0 h)

-- 32 bits hold a short value
fits_32 : (v : ℤ) → IsShort v → FitsSigned w32 v
fits_32 (pos n) h = record { sfits = omega (arith, ints, h.high) }
fits_32 (negsuc n) h = record { sfits = omega (arith, ints, h.low) }

bits_below : (v : ℤ) → IsShort v → cast_unsigned w32 v < 2 ^ 32
bits_below (pos n) h = omega (arith, ints, h.high)
bits_below (negsuc n) h = omega (arith, ints, h.low)

pub bits_are : (v : ℤ) → IsShort v → word_bits v ≡ cast_unsigned w32 v
bits_are (pos n) h =
    let small : n % 2 ^ 32 ≡ n = omega (arith, ints, h.high) in
    ap unsigned_abs (int_rem_euclid_is (pos n) (pos (2 ^ 32)) (2 ^ 32) 0 n (omega arith) refl (omega (arith, ints))) ∙ small
bits_are (negsuc n) h =
    let m = 2 ^ 32 - suc n in
    let short : n < 2 ^ 31 = omega (arith, ints, h.low) in
    let small : m % 2 ^ 32 ≡ m = omega arith in
    ap unsigned_abs (int_rem_euclid_is (negsuc n) (pos (2 ^ 32)) (2 ^ 32) 1 m (omega arith) refl (omega (arith, ints)))
    ∙ small
    ∙ omega (arith, ints)

pub signed_short : (v : ℤ) → IsShort v → signed_word v ≡ v
signed_short v h = ap (cast_signed w32) (bits_are v h) ∙ to_z-of_z w32 v (fits_32 v h)

-- the displacement of a target
difference : (a u : ℕ) → a < 2 ^ 32 → u < 2 ^ 32 → int_rem_euclid (pos ((a + u) % 2 ^ 32) -ℤ pos a) (pos (2 ^ 32)) ≡ pos u
difference a u small h =
    let n = (a + u) % 2 ^ 32 in
    let e : (n + 2 ^ 32 - a) % 2 ^ 32 ≡ u = omega arith in
    int_rem_euclid_is (pos n -ℤ pos a) (pos (2 ^ 32)) (2 ^ 32) 1 (n + 2 ^ 32 - a) (omega arith) refl (omega (arith, ints))
    ∙ ap pos e

pub displaced : (a : ℕ) (v : ℤ) → a < 2 ^ 32 → IsShort v → displacement a (pos (target_of a v)) ≡ v
displaced a v small h =
    ap (λ z. cast_signed w32 (unsigned_abs z)) (difference a (cast_unsigned w32 v) small (bits_below v h))
    ∙ to_z-of_z w32 v (fits_32 v h)

-- the fields with the value of one more operand
pub fill : (l : Limits) (o : Operand) (os : List Operand) (e : Entry) (es : List Entry) (v : ℤ) (f g : Fields) → e ≡ Ok v → with_number l o.role v f ≡ Ok g → filled l (o ∷ os) (e ∷ es) f ≡ filled l os es g
fill l o os e es v f g value number = rw (value, number) refl

abbrev pub number_made : Fields → Reading Fields
number_made f = Ok f

-- an immediate within the limits
pub immediate_fills : (l : Limits) (v : ℤ) (f : Fields) → limit_fault l v ≡ None → IsShort v → with_number l Immediate v f ≡ Ok (fields f.rd f.rs1 f.rs2 v)
immediate_fills l v f fits h = rw fits (ap (λ v. number_made (fields f.rd f.rs1 f.rs2 v)) (signed_short v h))

below_32 : (n : ℕ) → n < 32 → (int_le (pos 0) (pos n) && int_le (pos n) (pos 31)) ≡ true
below_32 n h = grind (arith, nat_tests)

-- an immediate in the place of `rs1`
pub source_fills : (l : Limits) (n : ℕ) (f : Fields) → n < 32 → with_number l SourceImmediate (pos n) f ≡ Ok (fields f.rd n f.rs2 f.value)
source_fills l n f h = rw (below_32 n h) refl
