-- What is proved of each shape, and by it of each operation.
use Rattle.std.proofs.Common.{◌≡◌, ℕ, ℤ, ◌+◌, ◌-◌, ◌^◌, List, [], ◌∷◌, bit_and, nat_eq, ap, ◌∙◌, cond, ltb}
use Rattle.rv_ops.specs.contracts.layouts.Field.{the_type as field_type}
use Rattle.rv_ops.specs.declared.layouts.Field.TheVariants.{Value}
use denote.Enum.Declared.{tag_of}
use Rattle.rv_ops.specs.declared.op.Op.{Op}
use Rattle.rv_ops.specs.declared.op.Shape.{Shape}
use Rattle.rv_ops.specs.contracts.op.Shape.{the_type as shape_type}
use Rattle.rv_ops.specs.Limits.{InLimits}
use Rattle.rv_ops.specs.LimitLaws.{in_limits}
use Rattle.rv_ops.specs.Room.{room}
use Rattle.rv_ops.specs.declared.layouts.FieldSlice.{FieldSlice}
use Rattle.rv_ops.specs.Table.{shape_of, classes_of, limits_of, slices_of}
use Rattle.rv_code.specs.declared.instruction.Fields.{Fields}
use Rattle.rv_code.specs.Encoding.{bits_of_slices, Fits}
use Rattle.rv_code.specs.Decoding.{fields_at}
use Rattle.rv_code.proofs.Classes.{InClass, in_class}

-- the operations of the shape take the fields
pub record FitsShape (s : Shape) (f : Fields) : Type 0 where
  pub rd : InClass (classes_of s).rd f.rd
  pub rs1 : InClass (classes_of s).rs1 f.rs1
  pub rs2 : InClass (classes_of s).rs2 f.rs2
  pub value : InLimits (limits_of s) f.value

pub fits_shape : (o : Op) (f : Fields) → Fits o f → FitsShape (shape_of o) f
fits_shape o f h = record {
  rd = in_class _ _ h.rd;
  rs1 = in_class _ _ h.rs1;
  rs2 = in_class _ _ h.rs2;
  value = in_limits _ _ h.value;
}

-- how many bits the encodings of a shape have: the first 15 shapes have 32, the others 16
abbrev pub size_of_shape : Shape → ℕ
size_of_shape s = cond (ltb (tag_of shape_type s) 15) 32 16

-- the bits that no field fills
unfoldable pub mask_of_shape : Shape → ℕ
mask_of_shape s = 2 ^ size_of_shape s - 1 - room (slices_of s)

-- a word of these fixed bits and fields gives them back
pub record IsRead (s : Shape) (n : ℕ) (f : Fields) : Type 0 where
  pub fields : fields_at s (n + bits_of_slices f (slices_of s)) ≡ f
  pub fixed : bit_and (n + bits_of_slices f (slices_of s)) (mask_of_shape s) ≡ n

pub fields_same : {rd rd' rs1 rs1' rs2 rs2' : ℕ} {v v' : ℤ} → rd ≡ rd' → rs1 ≡ rs1' → rs2 ≡ rs2' → v ≡ v' →
    ◌≡◌ {A = Fields} (record { rd = rd; rs1 = rs1; rs2 = rs2; value = v }) (record { rd = rd'; rs1 = rs1'; rs2 = rs2'; value = v' })
fields_same {rd} {rd'} {rs1} {rs1'} {rs2} {rs2'} {v} {v'} a b c d =
    let of_parts : ℕ → ℕ → ℕ → ℤ → Fields = λ x y z w. record { rd = x; rs1 = y; rs2 = z; value = w } in
    ap (λ x. of_parts x rs1 rs2 v) a ∙ ap (λ y. of_parts rd' y rs2 v) b ∙ ap (λ z. of_parts rd' rs1' z v) c ∙ ap (λ w. of_parts rd' rs1' rs2' w) d

pub same_fields : (f : Fields) (rd rs1 rs2 : ℕ) (v : ℤ) → rd ≡ f.rd → rs1 ≡ f.rs1 → rs2 ≡ f.rs2 → v ≡ f.value →
    ◌≡◌ {A = Fields} (record { rd = rd; rs1 = rs1; rs2 = rs2; value = v }) f
same_fields f rd rs1 rs2 v a b c d = fields_same a b c d

-- how many bits of the value the slices hold, from its lowest on
abbrev pub width_of_value : List FieldSlice → ℕ
width_of_value [] = 0
width_of_value (s ∷ ss) =
    let rest = width_of_value ss in
    let end = s.field_bit + s.width in
    cond (nat_eq (tag_of field_type s.field) (tag_of field_type Value)) (cond (ltb end rest) rest end) rest
