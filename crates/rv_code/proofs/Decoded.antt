-- A word has at most one instruction, and the row of its operation has it.
use Rattle.std.proofs.Common.{◌≡◌, ℕ, ◌-◌, ◌%◌, ◌<◌, refl, arith, bit_and, sym, ap, subst, ◌∙◌, Bool, true, false, nat_eq, cond, List, [], ◌∷◌, zero, suc, length, get_or, true≢false, Option, Some, None}
use Rattle.std.specs.Option.{IfSome}
use Rattle.std.specs.Prelude.{IfNone, IsSome, ◌↔◌}
use Rattle.rv_ops.specs.declared.op.Op.{Op}
use Rattle.rv_ops.specs.TableLaws.{row_of-operation}
use Rattle.rv_ops.specs.Table.{no_row, number_of, row_of, fixed_of, mask_of, shape_of, is_full}
use Rattle.rv_code.specs.declared.instruction.Fields.{Fields}
use Rattle.rv_code.specs.declared.word.Word.{Word}
use Rattle.rv_code.specs.declared.word.Word.TheVariants.{Half, Full}
use Rattle.rv_code.specs.Encoding.{encoding_of, word_of, Fits}
use Rattle.rv_code.specs.Decoding.{Code, IsWordOf, IsWordOfNone, code_of, fields_at}
use Rattle.rv_code.specs.Groups.{codes_of_full_group, codes_of_half_group, full_group, half_group}
use Rattle.rv_code.proofs.Apart.{one_operation}
use Rattle.rv_code.proofs.GroupLaws.{place, code, full_row, half_row}
use Rattle.rv_code.proofs.Reading.{encoding-low, encoding-mask, fields_at-encoding}
use Rattle.rv_code.proofs.Words.{word_of-full, word_of-half}

-- an instruction of the number
pub record IsInstruction (o : Op) (f : Fields) (w : ℕ) : Type 0 where
  pub fits : Fits o f
  pub word : encoding_of o f ≡ w

fields_at-word : (o : Op) (f : Fields) (w : ℕ) → IsInstruction o f w → fields_at (shape_of o) w ≡ f
fields_at-word o f w h = ap (fields_at (shape_of o)) (sym h.word) ∙ fields_at-encoding o f h.fits

is_word_of : (o : Op) (f : Fields) (w : ℕ) → IsInstruction o f w → IsWordOf o w
is_word_of o f w h = subst (Fits o) (sym (fields_at-word o f w h)) h.fits

-- one number has one instruction
pub one : (o p : Op) (f g : Fields) (w : ℕ) → IsInstruction o f w → IsInstruction p g w → ◌≡◌ {A = Op × Fields} (o, f) (p, g)
one o p f g w h k =
    let operations : o ≡ p = one_operation o p f g h.fits k.fits (h.word ∙ sym k.word) in
    let fields : f ≡ g = sym (fields_at-word o f w h) ∙ ap (λ q. fields_at (shape_of q) w) operations ∙ fields_at-word p g w k in
    let pair : Op → Fields → Op × Fields = λ q x. (q, x) in
    ap (λ q. pair q f) operations ∙ ap (λ x. pair p x) fields

-- the two lengths of a word
abbrev pub number_of_word : Word → ℕ
number_of_word (Full n) = n
number_of_word (Half n) = n

full_parts : (full : Bool) (n w : ℕ) → cond full (Full n) (Half n) ≡ Full w → (full ≡ true) × (n ≡ w)
full_parts true n w e = (refl, ap number_of_word e)
full_parts false n w e = absurd (cc)

half_parts : (full : Bool) (n w : ℕ) → cond full (Full n) (Half n) ≡ Half w → (full ≡ false) × (n ≡ w)
half_parts true n w e = absurd (cc)
half_parts false n w e = (refl, ap number_of_word e)

full_word : (o : Op) (f : Fields) (w : ℕ) → word_of o f ≡ Full w → (is_full o ≡ true) × (encoding_of o f ≡ w)
unfolding word_of
full_word o f w e = full_parts (is_full o) (encoding_of o f) w e

half_word : (o : Op) (f : Fields) (w : ℕ) → word_of o f ≡ Half w → (is_full o ≡ false) × (encoding_of o f ≡ w)
unfolding word_of
half_word o f w e = half_parts (is_full o) (encoding_of o f) w e

none_at : (cs : List Code) (w k : ℕ) → IsWordOfNone cs w → k < length cs → (c : Code) → get_or cs k (code_of no_row) ≡ c → bit_and w c.2 ≡ c.1 → IsWordOf c.0 w → ⊥
none_at [] w k none lt c e m h = absurd (omega arith)
none_at (x ∷ cs) w zero none lt c e m h = subst (λ y. bit_and w y.2 ≡ y.1 → IsWordOf y.0 w → ⊥) e none.0 m h
none_at (x ∷ cs) w (suc k) none lt c e m h = none_at cs w k none.1 (omega arith) c e m h

-- the row of an instruction's operation has its number
module _ (o : Op) (f : Fields) (w : ℕ) (h : IsInstruction o f w) where
  under_mask : bit_and w (mask_of o) ≡ fixed_of o
  under_mask = ap (λ n. bit_and n (mask_of o)) (sym h.word) ∙ encoding-mask o f h.fits

  of_row : IsWordOf (row_of o).0 w
  of_row = subst (λ q. IsWordOf q w) (sym (row_of-operation o)) (is_word_of o f w h)

  pub not_none_full : is_full o ≡ true → IsWordOfNone (codes_of_full_group w) w → ⊥
  not_none_full e none =
      let row = full_row o w e under_mask in
      none_at (codes_of_full_group w) w (number_of o - (full_group w).0) none (place o (full_group w) row.first row.end) _ (code o (full_group w) row.first row.end) under_mask of_row

  pub not_none_half : is_full o ≡ false → IsWordOfNone (codes_of_half_group w) w → ⊥
  not_none_half e none =
      let row = half_row o w e under_mask in
      none_at (codes_of_half_group w) w (number_of o - (half_group w).0) none (place o (half_group w) row.first row.end) _ (code o (half_group w) row.first row.end) under_mask of_row

  low_bits : w % 4 ≡ fixed_of o % 4
  low_bits = ap (λ n. n % 4) (sym h.word) ∙ encoding-low o f h.fits

  pub is_full-low : is_full o ≡ nat_eq (w % 4) 3
  is_full-low = ap (λ n. nat_eq n 3) (sym low_bits)

-- what the search for an instruction says of it
abbrev IsFound : ℕ → Op × Fields → Type 0
IsFound w i = Fits i.0 i.1 × (encoding_of i.0 i.1 ≡ w)

-- what an operation takes of the fields that a word has is found
pub found_fields : (r : Option (Op × Fields)) (o : Op) (f : Fields) (w : ℕ) → encoding_of o f ≡ w → (IsSome r ↔ Fits o f) → IfSome r (λ i. i ≡ (o, f)) → IfSome r (IsFound w)
found_fields None o f w e fits same = tt
found_fields (Some i) o f w e fits same = subst (IsFound w) (sym same) (fits.0 refl, e)

pub found_full : (r : Option (Op × Fields)) (w : ℕ) → nat_eq (w % 4) 3 ≡ true → IfSome r (IsFound w) → IfSome r (λ i. Fits i.0 i.1 × (word_of i.0 i.1 ≡ Full w))
found_full None w low h = tt
found_full (Some i) w low h =
    let full = is_full-low i.0 i.1 w (record { fits = h.0; word = h.1 }) ∙ low in
    (h.0, word_of-full i.0 i.1 full ∙ ap (λ n. Full n) h.1)

pub found_half : (r : Option (Op × Fields)) (w : ℕ) → nat_eq (w % 4) 3 ≡ false → IfSome r (IsFound w) → IfSome r (λ i. Fits i.0 i.1 × (word_of i.0 i.1 ≡ Half w))
found_half None w low h = tt
found_half (Some i) w low h =
    let half = is_full-low i.0 i.1 w (record { fits = h.0; word = h.1 }) ∙ low in
    (h.0, word_of-half i.0 i.1 half ∙ ap (λ n. Half n) h.1)

pub only_full : (r : Option (Op × Fields)) (w : ℕ) → IfSome r (IsFound w) → IfNone r (IsWordOfNone (codes_of_full_group w) w) → (o : Op) (f : Fields) → Fits o f → word_of o f ≡ Full w → r ≡ Some (o, f)
only_full None w found none o f h e =
    let parts = full_word o f w e in absurd (not_none_full o f w (record { fits = h; word = parts.1 }) parts.0 none)
only_full (Some i) w found none o f h e =
    ap (λ j. Some j) (one i.0 o i.1 f w (record { fits = found.0; word = found.1 }) (record { fits = h; word = (full_word o f w e).1 }))

pub only_half : (r : Option (Op × Fields)) (w : ℕ) → IfSome r (IsFound w) → IfNone r (IsWordOfNone (codes_of_half_group w) w) → (o : Op) (f : Fields) → Fits o f → word_of o f ≡ Half w → r ≡ Some (o, f)
only_half None w found none o f h e =
    let parts = half_word o f w e in absurd (not_none_half o f w (record { fits = h; word = parts.1 }) parts.0 none)
only_half (Some i) w found none o f h e =
    ap (λ j. Some j) (one i.0 o i.1 f w (record { fits = found.0; word = found.1 }) (record { fits = h; word = (half_word o f w e).1 }))

pub not_full : (w : ℕ) → nat_eq (w % 4) 3 ≡ false → (o : Op) (f : Fields) → Fits o f → word_of o f ≡ Full w → ⊥
not_full w low o f h e =
    let parts = full_word o f w e in
    true≢false (sym parts.0 ∙ is_full-low o f w (record { fits = h; word = parts.1 }) ∙ low)

pub not_half : (w : ℕ) → nat_eq (w % 4) 3 ≡ true → (o : Op) (f : Fields) → Fits o f → word_of o f ≡ Half w → ⊥
not_half w low o f h e =
    let parts = half_word o f w e in
    true≢false (sym low ∙ sym (is_full-low o f w (record { fits = h; word = parts.1 })) ∙ parts.0)
