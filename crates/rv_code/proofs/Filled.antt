-- The fixed bits and the slices of a shape fill a word: it is the encoding of the fields that it has.
use Rattle.std.proofs.Common.{◌≡◌, ℕ, ℤ, pos, negsuc, ◌+◌, ◌-◌, ◌*◌, ◌/◌, ◌%◌, ◌^◌, ◌<◌, ◌≤◌, ◌-ℤ◌, true, false, nat_eq, arith, bit_and, cond, Bool, ap, sym, subst, eqb-true, ◌∙◌, refl, suc, List, [], ◌∷◌}
use Rattle.std.specs.Int.{cast_unsigned, w32}
use Rattle.std.specs.Prelude.{int_lt}
use Rattle.std.proofs.lemmas.Bool.{cond_both}
use Rattle.std.proofs.lemmas.Int.{ints}
use Rattle.std.proofs.lemmas.Nat.{mod_below, pow_pos}
use Rattle.std.proofs.Math.Nat.{mul-le-mul_right}
use denote.Enum.Declared.{tag_of}
use Rattle.rv_ops.specs.contracts.layouts.Field.{the_type as field_type}
use Rattle.rv_ops.specs.declared.op.Op.{Op}
use Rattle.rv_ops.specs.declared.op.Op.TheVariants.{Lui}
use Rattle.rv_ops.specs.declared.op.Shape.{Shape}
use Rattle.rv_ops.specs.declared.op.Shape.TheVariants.{Upper, CJump}
use Rattle.rv_ops.specs.declared.layouts.Field.{Field}
use Rattle.rv_ops.specs.declared.layouts.Field.TheVariants.{Rd, Rs1, Rs2, Value}
use Rattle.rv_ops.specs.declared.layouts.FieldSlice.{FieldSlice}
use Rattle.rv_ops.specs.Table.{row_of, classes_of, layout_of, shape_of, sign_of, slices_of, fixed_of, mask_of, is_full}
use Rattle.rv_code.specs.declared.instruction.Fields.{Fields}
use Rattle.rv_code.specs.Encoding.{bits_of_field, bits_of_slices, encoding_of}
use Rattle.rv_code.specs.Decoding.{bits_from_slice, fields_at, first_of, gathered, most_from_slice, reach, value_of}
use Rattle.rv_code.proofs.ReadBack.{runs_of, runs-mask}
use Rattle.rv_code.proofs.Reading.{mask-shape}
use Rattle.rv_code.proofs.Runs.{and_runs, bits_of_runs}
use Rattle.rv_code.proofs.Shapes.{size_of_shape, width_of_value}

most_of_slice : (field : Field) (w : ℕ) (s : FieldSlice) → bits_from_slice field w s ≤ most_from_slice field s
most_of_slice field w s =
    let digit = w / 2 ^ s.word_bit % 2 ^ s.width in
    let below : digit < 2 ^ s.width = mod_below _ _ (pow_pos s.width) in
    let times = mul-le-mul_right {m = suc digit} {n = 2 ^ s.width} (2 ^ s.field_bit) below in
    let within : digit * 2 ^ s.field_bit ≤ 2 ^ s.width * 2 ^ s.field_bit - 2 ^ s.field_bit = omega (arith, times) in
    by (nat_eq (tag_of field_type field) (tag_of field_type s.field)) (digit * 2 ^ s.field_bit) _ within
  where
    by : (same : Bool) (a b : ℕ) → a ≤ b → cond same a 0 ≤ cond same b 0
    by true a b h = h
    by false a b h = omega arith

-- the slices of a field give it no number above what they reach
most_gathered : (field : Field) (w : ℕ) (ss : List FieldSlice) → gathered field w ss ≤ reach field ss
most_gathered field w [] = omega arith
most_gathered field w (s ∷ ss) =
    let one = most_of_slice field w s in
    let rest = most_gathered field w ss in
    omega (arith, one, rest)

-- a number is the lowest bits of the value for which it stands
above : (s : Shape) (n : ℕ) (v : ℤ) → n ≤ reach Value (slices_of s) → int_lt (sign_of s).greatest (pos n) ≡ true → v ≡ (pos n -ℤ (sign_of s).modulus) → cast_unsigned w32 v % 2 ^ width_of_value (slices_of s) ≡ n
unfolding layout_of
above Upper n (pos v) most h e = omega (arith, ints, most, h, e)
above _ n (pos v) most h e = omega (arith, ints, most, h, e)
above Upper n (negsuc v) most h e = omega (arith, ints, most, h, e)
above _ n (negsuc v) most h e = omega (arith, ints, most, h, e)

itself : (s : Shape) (n : ℕ) → n ≤ reach Value (slices_of s) → n % 2 ^ width_of_value (slices_of s) ≡ n
unfolding layout_of
itself Upper n most = omega (arith, most)
itself _ n most = omega (arith, most)

number_kept : (s : Shape) (n : ℕ) → n ≤ reach Value (slices_of s) → cast_unsigned w32 (value_of (sign_of s) n) % 2 ^ width_of_value (slices_of s) ≡ n
number_kept s n most =
    cond_both (int_lt (sign_of s).greatest (pos n)) (pos n -ℤ (sign_of s).modulus) (pos n) (λ v. cast_unsigned w32 v % 2 ^ width_of_value (slices_of s) ≡ n)
    (λ h. above s n _ most h refl)
    (λ h. itself s n most)

-- the fields have what the slices of a word give them
record Has (s : Shape) (f : Fields) (w : ℕ) : Type 0 where
  pub rd : f.rd ≡ first_of (classes_of s).rd + gathered Rd w (slices_of s)
  pub rs1 : f.rs1 ≡ first_of (classes_of s).rs1 + gathered Rs1 w (slices_of s)
  pub rs2 : f.rs2 ≡ first_of (classes_of s).rs2 + gathered Rs2 w (slices_of s)
  pub value : bits_of_field Value f % 2 ^ width_of_value (slices_of s) ≡ gathered Value w (slices_of s)

-- the eight slices of a jump's displacement, as numbers
jump_digits : (n u v w x y z s t : ℕ) → u < 2 ^ 1 → v < 2 ^ 3 → w < 2 ^ 1 → x < 2 ^ 1 → y < 2 ^ 1 → z < 2 ^ 2 → s < 2 ^ 1 → t < 2 ^ 1 →
    n % 2 ^ 12 ≡ u * 2 ^ 5 + (v * 2 ^ 1 + (w * 2 ^ 7 + (x * 2 ^ 6 + (y * 2 ^ 10 + (z * 2 ^ 8 + (s * 2 ^ 4 + (t * 2 ^ 11 + 0))))))) →
    (n / 2 ^ 5 % 2 ^ 1) * 2 ^ 2 + ((n / 2 ^ 1 % 2 ^ 3) * 2 ^ 3 + ((n / 2 ^ 7 % 2 ^ 1) * 2 ^ 6 + ((n / 2 ^ 6 % 2 ^ 1) * 2 ^ 7 + ((n / 2 ^ 10 % 2 ^ 1) * 2 ^ 8 + ((n / 2 ^ 8 % 2 ^ 2) * 2 ^ 9 + ((n / 2 ^ 4 % 2 ^ 1) * 2 ^ 11 + ((n / 2 ^ 11 % 2 ^ 1) * 2 ^ 12 + 0))))))) ≡
    u * 2 ^ 2 + (v * 2 ^ 3 + (w * 2 ^ 6 + (x * 2 ^ 7 + (y * 2 ^ 8 + (z * 2 ^ 9 + (s * 2 ^ 11 + (t * 2 ^ 12 + 0)))))))
jump_digits n u v w x y z s t hu hv hw hx hy hz hs ht e = omega (arith, e)

-- the bits of its runs and those of its fields are the whole word
filled : (s : Shape) (f : Fields) (w : ℕ) → w < 2 ^ size_of_shape s → Has s f w → bits_of_runs (runs_of s) 0 w + bits_of_slices f (slices_of s) ≡ w
unfolding layout_of
filled CJump f w h e =
    ap (λ n. bits_of_runs (runs_of CJump) 0 w + n)
    (jump_digits (bits_of_field Value f) (w / 2 ^ 2 % 2 ^ 1) (w / 2 ^ 3 % 2 ^ 3) (w / 2 ^ 6 % 2 ^ 1) (w / 2 ^ 7 % 2 ^ 1) (w / 2 ^ 8 % 2 ^ 1) (w / 2 ^ 9 % 2 ^ 2) (w / 2 ^ 11 % 2 ^ 1) (w / 2 ^ 12 % 2 ^ 1) (omega arith) (omega arith) (omega arith) (omega arith) (omega arith) (omega arith) (omega arith) (omega arith) e.value)
    ∙ omega (arith, h)
filled Upper f w h e = omega (arith, e)
filled _ f w h e = omega (arith, e)

has_fields : (s : Shape) (w : ℕ) → Has s (fields_at s w) w
unfolding fields_at
has_fields s w = record {
  rd = refl;
  rs1 = refl;
  rs2 = refl;
  value = number_kept s (gathered Value w (slices_of s)) (most_gathered Value w (slices_of s));
}

shape-size_test : (o : Op) → nat_eq (cond (is_full o) 32 16) (size_of_shape (shape_of o)) ≡ true
unfolding row_of
shape-size_test Lui = refl
shape-size_test _ = refl

within_size : (o : Op) (w : ℕ) → w < 2 ^ 32 → (is_full o ≡ false → w < 2 ^ 16) → w < 2 ^ size_of_shape (shape_of o)
within_size o w full half =
    subst (λ size. w < 2 ^ size) (eqb-true _ _ (shape-size_test o)) (cond_both (is_full o) 32 16 (λ size. w < 2 ^ size) (λ _. full) half)

-- a word with the fixed bits of an operation is the encoding of the fields that it has
pub encoding-fields_at : (o : Op) (w : ℕ) → bit_and w (mask_of o) ≡ fixed_of o → w < 2 ^ 32 → (is_full o ≡ false → w < 2 ^ 16) → encoding_of o (fields_at (shape_of o) w) ≡ w
unfolding encoding_of
encoding-fields_at o w e full half =
    let s = shape_of o in
    let fixed : fixed_of o ≡ bits_of_runs (runs_of s) 0 w = sym e ∙ ap (λ m. bit_and w m) (mask-shape o ∙ sym (runs-mask s)) ∙ and_runs (runs_of s) w in
    ap (λ n. n + bits_of_slices (fields_at s w) (slices_of s)) fixed
    ∙ filled s (fields_at s w) w (within_size o w full half) (has_fields s w)
