-- The steps in which the fields of an encoding are found, and the word that they are together.
use Rattle.std.proofs.Common.{◌≡◌, ℕ, suc, ◌+◌, ◌*◌, ◌/◌, ◌%◌, ◌^◌, ◌++◌, arith, refl, ap, sym, ◌∙◌, subst, Bool, true, false, IsTrue, List, [], ◌∷◌, map, Option, Some, None, nat_eq, nat_le, ◌&&◌, if◌then◌else◌, append_assoc, eqb-true}
use Rattle.std.proofs.lemmas.Bool.{and_parts}
use Rattle.std.proofs.lemmas.Nat.{mod-pow-add}
use Rattle.rv_ops.specs.declared.op.Op.{Op}
use Rattle.rv_ops.specs.Table.{is_full}
use Rattle.rv_code.specs.declared.instruction.Fields.{Fields}
use Rattle.rv_code.specs.declared.word.Word.{Word}
use Rattle.rv_code.specs.declared.word.Word.TheVariants.{Half, Full}
use Rattle.rv_code.specs.Encoding.{encoding_of, word_of}
use Rattle.rv_manual.specs.declared.formats.Stretch.{Stretch}
use Rattle.rv_manual.specs.declared.fields.EncodedField.{EncodedField}
use Rattle.rv_manual.specs.Fields.{before, bits_together, covers, field_of, stretch_below, stretches_below}

map_before : (f : Stretch → EncodedField) (found : Option Stretch) (ss : List Stretch) → map f (before found []) ++ map f ss ≡ map f (before found ss)
map_before f None ss = refl
map_before f (Some s) ss = refl

step : (f : Stretch → EncodedField) (o : Op) (n : ℕ) (fields : List EncodedField) →
    (fields ++ map f (before (stretch_below o (suc n)) [])) ++ map f (stretches_below o n) ≡ fields ++ map f (stretches_below o (suc n))
step f o n fields =
    append_assoc fields (map f (before (stretch_below o (suc n)) [])) (map f (stretches_below o n))
    ∙ ap (λ rest. fields ++ rest) (map_before f (stretch_below o (suc n)) (stretches_below o n))

-- the field below a bit stands before those of the lower bits
pub one_more : (f : Stretch → EncodedField) (o : Op) (end n : ℕ) (fields : List EncodedField) → end ≡ suc n →
    (fields ++ map f (before (stretch_below o end) [])) ++ map f (stretches_below o n) ≡ fields ++ map f (stretches_below o end)
one_more f o end n fields e =
    subst (λ m. (fields ++ map f (before (stretch_below o m) [])) ++ map f (stretches_below o n) ≡ fields ++ map f (stretches_below o m)) (sym e) (step f o n fields)

-- fields of a word that cover its low bits are these bits together
pub are_together : (w end : ℕ) (ss : List Stretch) → IsTrue (covers end (map (field_of w) ss)) → bits_together (map (field_of w) ss) ≡ w % 2 ^ end
are_together w end [] h = omega (arith, ap (λ n. w % 2 ^ n) (eqb-true end 0 h))
are_together w end (s ∷ ss) h =
    let width = and_parts (nat_le 1 s.width) (nat_eq (s.width + s.word_bit) end && covers s.word_bit (map (field_of w) ss)) h in
    let place = and_parts (nat_eq (s.width + s.word_bit) end) (covers s.word_bit (map (field_of w) ss)) width.1 in
    ap (λ rest. (w / 2 ^ s.word_bit % 2 ^ s.width) * 2 ^ s.word_bit + rest) (are_together w s.word_bit ss place.1)
    ∙ sym (mod-pow-add w s.width s.word_bit)
    ∙ ap (λ n. w % 2 ^ n) (eqb-true (s.width + s.word_bit) end place.0)

-- the number that a word is
abbrev pub number_of : Word → ℕ
number_of (Half n) = n
number_of (Full n) = n

abbrev pub has_all_bits : Word → Bool
has_all_bits (Half n) = false
has_all_bits (Full n) = true

number_is : (full : Bool) (n : ℕ) → number_of (if full then Full n else Half n) ≡ n
number_is true n = refl
number_is false n = refl

size_is : (full : Bool) (n : ℕ) → has_all_bits (if full then Full n else Half n) ≡ full
size_is true n = refl
size_is false n = refl

-- the number of an instruction's word is its encoding
pub number_of_word : (o : Op) (f : Fields) → number_of (word_of o f) ≡ encoding_of o f
unfolding word_of
number_of_word o f = number_is (is_full o) (encoding_of o f)

-- how many bits it has
pub size_of_word : (o : Op) (f : Fields) → has_all_bits (word_of o f) ≡ is_full o
unfolding word_of
size_of_word o f = size_is (is_full o) (encoding_of o f)
