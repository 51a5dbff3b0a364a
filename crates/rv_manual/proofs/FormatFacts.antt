-- Facts on the formats: each is computed from the tables, for each operation.
use Rattle.std.proofs.Common.{◌≡◌, ℕ, ◌<◌, refl, true, IsTrue, ltb, ltb-true, length, List, [], ◌∷◌, map, slice_index_or, zero, suc}
use Rattle.std.specs.List.{list_all}
use Rattle.rv_ops.specs.declared.op.Op.{Op}
use Rattle.rv_ops.specs.declared.op.Op.TheVariants.{Lui}
use Rattle.rv_ops.specs.Table.{layout_of, mask_of, row_of}
use Rattle.rv_manual.specs.declared.formats.TheConstants.{FORMATS}
use Rattle.rv_manual.specs.Fields.{bits_of_stretches, covers, field_of, format_number, format_of, is_stretch, size_of, stretch_below, stretches_of}

number_test : (o : Op) → ltb (format_number o) (length FORMATS) ≡ true
unfolding row_of
number_test Lui = refl
number_test _ = refl

-- an operation has a format
pub has_format : (o : Op) → format_number o < length FORMATS
has_format o = ltb-true _ _ (number_test o)

-- stretches of fixed bits are within 32 bits
pub are_stretches : (o : Op) → IsTrue (list_all is_stretch (format_of o).1.now)
unfolding row_of format_of
are_stretches Lui = refl
are_stretches _ = refl

value_test : (o : Op) → ltb (format_of o).0.value_bit 32 ≡ true
unfolding row_of format_of
value_test Lui = refl
value_test _ = refl

pub has_value_bit : (o : Op) → (format_of o).0.value_bit < 32
has_value_bit o = ltb-true _ _ (value_test o)

-- the fields of a word cover each of its bits once
pub are_covered : (o : Op) (w : ℕ) → IsTrue (covers (size_of o) (map (field_of w) (stretches_of o)))
unfolding row_of layout_of format_of stretch_below stretches_of
are_covered Lui w = refl
are_covered _ w = refl

-- the stretches of fixed bits are those of the mask
pub are_fixed : (o : Op) → bits_of_stretches (format_of o).1.now ≡ mask_of o
unfolding row_of format_of
are_fixed Lui = refl
are_fixed _ = refl

-- a column of a row is the row of the column
pub slice_index_or-map : {X Y : Type 0} (f : X → Y) (xs : List X) (n : ℕ) (d : X) → f (slice_index_or xs n d) ≡ slice_index_or (map f xs) n (f d)
slice_index_or-map f [] n d = refl
slice_index_or-map f (x ∷ xs) zero d = refl
slice_index_or-map f (x ∷ xs) (suc n) d = slice_index_or-map f xs n d
