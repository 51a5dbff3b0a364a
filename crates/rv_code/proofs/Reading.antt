-- Each word of an operation is read back: its slices give the fields, and its mask gives the fixed bits.
use Rattle.std.proofs.Common.{◌≡◌, ◌+◌, ◌-◌, ◌*◌, ◌/◌, ◌%◌, ◌^◌, true, refl, arith, bit_and, sym, ap, nat_eq, eqb-true, ◌∙◌}
use Rattle.rv_ops.specs.declared.op.Op.{Op}
use Rattle.rv_ops.specs.declared.op.Op.TheVariants.{Lui}
use Rattle.rv_ops.specs.TableLaws.{fixed_of-mask}
use Rattle.rv_ops.specs.Table.{row_of, layout_of, mask_of, fixed_of, shape_of}
use Rattle.rv_code.specs.declared.instruction.Fields.{Fields}
use Rattle.rv_code.specs.Encoding.{encoding_of, Fits}
use Rattle.rv_code.specs.Decoding.{fields_at}
use Rattle.rv_code.proofs.ReadBack.{read_back}
use Rattle.rv_code.proofs.Runs.{and_ones}
use Rattle.rv_code.proofs.Shapes.{IsRead, fits_shape, mask_of_shape}

-- the mask of the row is that of its shape
pub mask-shape : (o : Op) → mask_of o ≡ mask_of_shape (shape_of o)
unfolding row_of layout_of mask_of_shape
mask-shape Lui = refl
mask-shape _ = refl

is_read : (o : Op) (f : Fields) → Fits o f → IsRead (shape_of o) (fixed_of o) f
is_read o f h =
    read_back (shape_of o) (fixed_of o) f (sym (ap (λ m. bit_and (fixed_of o) m) (mask-shape o)) ∙ fixed_of-mask o)
    (fits_shape o f h)

-- the fields of the word are those that it was made of
pub fields_at-encoding : (o : Op) (f : Fields) → Fits o f → fields_at (shape_of o) (encoding_of o f) ≡ f
unfolding encoding_of
fields_at-encoding o f h = (is_read o f h).fields

-- the word has the fixed bits under the mask
pub encoding-mask : (o : Op) (f : Fields) → Fits o f → bit_and (encoding_of o f) (mask_of o) ≡ fixed_of o
unfolding encoding_of
encoding-mask o f h = ap (λ m. bit_and (encoding_of o f) m) (mask-shape o) ∙ (is_read o f h).fixed

mask-low_test : (o : Op) → nat_eq (mask_of o % 4) 3 ≡ true
unfolding row_of
mask-low_test Lui = refl
mask-low_test _ = refl

-- its low two bits are fixed
pub encoding-low : (o : Op) (f : Fields) → Fits o f → encoding_of o f % 4 ≡ fixed_of o % 4
encoding-low o f h =
    let low : mask_of o % 4 ≡ 3 = eqb-true _ _ (mask-low_test o) in
    let m : mask_of o ≡ mask_of o / 4 * 2 ^ 2 + (2 ^ 2 - 1) = omega (arith, low) in
    let e = ap (λ n. bit_and (encoding_of o f) n) (sym m) ∙ encoding-mask o f h in
    omega (arith, e, and_ones (encoding_of o f) (mask_of o / 4) 2)
