-- Facts on the layouts: each is computed from the table.
use Rattle.std.proofs.Common.{pos, negsuc, ◌≤ℤ◌, arith, List, [], ◌∷◌, map, slice_index_or, zero, suc, ◌≡◌, ℕ, ◌+◌, ◌^◌, ◌<◌, true, false, refl, IsTrue, ltb, ◌||◌, ◌∙◌, ap, sym, ltb-true}
use Rattle.std.proofs.lemmas.Int.{ints}
use Rattle.std.specs.List.{list_all}
use Rattle.rv_ops.specs.declared.op.Op.{Op}
use Rattle.rv_ops.specs.declared.op.Op.TheVariants.{Lui}
use Rattle.rv_ops.specs.Room.{is_slice, room}
use Rattle.rv_ops.specs.Table.{row_of, layout_of, is_full, limits_of, sign_of, slices_of, shape_of, fixed_of}

pub are_slices : (o : Op) → IsTrue (list_all is_slice (slices_of (shape_of o)))
unfolding row_of layout_of
are_slices Lui = refl
are_slices _ = refl

has_room_test : (o : Op) → ltb (fixed_of o + room (slices_of (shape_of o))) (2 ^ 32) ≡ true
unfolding row_of layout_of
has_room_test Lui = refl
has_room_test _ = refl

-- an encoding has 32 bits at most
pub has_room : (o : Op) → fixed_of o + room (slices_of (shape_of o)) < 2 ^ 32
has_room o = ltb-true _ _ (has_room_test o)

is_short_test : (o : Op) → (is_full o || ltb (fixed_of o + room (slices_of (shape_of o))) (2 ^ 16)) ≡ true
unfolding row_of layout_of
is_short_test Lui = refl
is_short_test _ = refl

-- an encoding that is not full has 16 bits at most
pub is_short : (o : Op) → is_full o ≡ false → fixed_of o + room (slices_of (shape_of o)) < 2 ^ 16
is_short o e =
    ltb-true _ _ (ap (λ full. full || ltb (fixed_of o + room (slices_of (shape_of o))) (2 ^ 16)) (sym e) ∙ is_short_test o)

has_multiple_test : (o : Op) → ltb 0 (limits_of (shape_of o)).multiple ≡ true
unfolding row_of layout_of
has_multiple_test Lui = refl
has_multiple_test _ = refl

pub has_multiple : (o : Op) → 0 < (limits_of (shape_of o)).multiple
has_multiple o = ltb-true _ _ (has_multiple_test o)

-- what is taken from a number with a sign is within 2^30
pub has_low_sign : (o : Op) → negsuc 1073741823 ≤ℤ (sign_of (shape_of o)).modulus
unfolding row_of layout_of
has_low_sign Lui = omega (arith, ints)
has_low_sign _ = omega (arith, ints)

pub has_high_sign : (o : Op) → (sign_of (shape_of o)).modulus ≤ℤ pos 1073741824
unfolding row_of layout_of
has_high_sign Lui = omega (arith, ints)
has_high_sign _ = omega (arith, ints)

-- a column of a row is the row of the column
pub slice_index_or-map : {X Y : Type 0} (f : X → Y) (xs : List X) (n : ℕ) (d : X) → f (slice_index_or xs n d) ≡ slice_index_or (map f xs) n (f d)
slice_index_or-map f [] n d = refl
slice_index_or-map f (x ∷ xs) zero d = refl
slice_index_or-map f (x ∷ xs) (suc n) d = slice_index_or-map f xs n d
