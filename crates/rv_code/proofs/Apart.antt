-- Two operations never have an encoding in common.
use Rattle.std.proofs.Common.{◌≡◌, arith, bit_and, sym, ◌∙◌, ap, subst, true, ◌&&◌, inl, inr}
use Rattle.std.proofs.lemmas.Nat.{and_comm, and_assoc}
use Rattle.std.proofs.lemmas.Bool.{and_parts, or_cases, false≢true}
use Rattle.rv_ops.specs.declared.op.Op.{Op}
use Rattle.rv_ops.specs.declared.op.Op.TheVariants.{CNop, CAddi, CAddi16sp, CLui, CJr, CMv, CEbreak, CJalr, CAdd}
use Rattle.rv_ops.specs.Table.{row_of, shape_of, layout_of, mask_of, fixed_of}
use Rattle.rv_ops.specs.TableLaws.{is_overlapping_pair, is_same, is_same-true, overlapping}
use Rattle.rv_code.specs.declared.instruction.Fields.{Fields}
use Rattle.rv_code.specs.Encoding.{encoding_of, Fits}
use Rattle.rv_code.proofs.Reading.{encoding-mask}
use Rattle.rv_code.proofs.Shapes.{FitsShape, fits_shape}

c_nop-c_addi : (f g : Fields) → FitsShape (shape_of CNop) f → FitsShape (shape_of CAddi) g → encoding_of CNop f ≡ encoding_of CAddi g → ⊥
unfolding encoding_of row_of layout_of
c_nop-c_addi f g h k e = absurd (omega arith)

c_addi16sp-c_lui : (f g : Fields) → FitsShape (shape_of CAddi16sp) f → FitsShape (shape_of CLui) g → encoding_of CAddi16sp f ≡ encoding_of CLui g → ⊥
unfolding encoding_of row_of layout_of
c_addi16sp-c_lui f g h k e = absurd (omega arith)

c_jr-c_mv : (f g : Fields) → FitsShape (shape_of CJr) f → FitsShape (shape_of CMv) g → encoding_of CJr f ≡ encoding_of CMv g → ⊥
unfolding encoding_of row_of layout_of
c_jr-c_mv f g h k e = absurd (omega arith)

c_jalr-c_add : (f g : Fields) → FitsShape (shape_of CJalr) f → FitsShape (shape_of CAdd) g → encoding_of CJalr f ≡ encoding_of CAdd g → ⊥
unfolding encoding_of row_of layout_of
c_jalr-c_add f g h k e = absurd (omega arith)

c_ebreak-c_jalr : (f g : Fields) → FitsShape (shape_of CEbreak) f → FitsShape (shape_of CJalr) g → encoding_of CEbreak f ≡ encoding_of CJalr g → ⊥
unfolding encoding_of row_of layout_of
c_ebreak-c_jalr f g h k e = absurd (omega arith)

c_ebreak-c_add : (f g : Fields) → FitsShape (shape_of CEbreak) f → FitsShape (shape_of CAdd) g → encoding_of CEbreak f ≡ encoding_of CAdd g → ⊥
unfolding encoding_of row_of layout_of
c_ebreak-c_add f g h k e = absurd (omega arith)

-- the operations have no word in common
abbrev AreApart : Op → Op → Type 0
AreApart o p = (f g : Fields) → FitsShape (shape_of o) f → FitsShape (shape_of p) g → encoding_of o f ≡ encoding_of p g → ⊥

carried : (o p a b : Op) → (is_same o a && is_same p b) ≡ true → AreApart a b → AreApart o p
carried o p a b e h =
    let same = and_parts (is_same o a) (is_same p b) e in
    subst (λ x. AreApart x p) (sym (is_same-true o a same.0)) (subst (λ y. AreApart a y) (sym (is_same-true p b same.1)) h)

pair_apart : (o p : Op) → is_overlapping_pair o p ≡ true → AreApart o p
pair_apart o p e =
    elim (or_cases _ _ e) [
      | inl here ↦ carried o p CNop CAddi here c_nop-c_addi
      | inr e ↦ elim (or_cases _ _ e) [
        | inl here ↦ carried o p CAddi16sp CLui here c_addi16sp-c_lui
        | inr e ↦ elim (or_cases _ _ e) [
          | inl here ↦ carried o p CJr CMv here c_jr-c_mv
          | inr e ↦ elim (or_cases _ _ e) [
            | inl here ↦ carried o p CJalr CAdd here c_jalr-c_add
            | inr e ↦ elim (or_cases _ _ e) [
              | inl here ↦ carried o p CEbreak CJalr here c_ebreak-c_jalr
              | inr e ↦ elim (or_cases _ _ e) [
                | inl here ↦ carried o p CEbreak CAdd here c_ebreak-c_add
                | inr none ↦ absurd (false≢true none)
              ]
            ]
          ]
        ]
      ]
    ]

-- one word has one operation
pub one_operation : (o p : Op) (f g : Fields) → Fits o f → Fits p g → encoding_of o f ≡ encoding_of p g → o ≡ p
one_operation o p f g hf hg e =
    let under : bit_and (fixed_of o) (mask_of p) ≡ bit_and (fixed_of p) (mask_of o) =
    ap (λ n. bit_and n (mask_of p)) (sym (encoding-mask o f hf))
    ∙ and_assoc (mask_of p) (encoding_of o f) (mask_of o)
    ∙ ap (bit_and (encoding_of o f)) (and_comm (mask_of o) (mask_of p))
    ∙ sym (and_assoc (mask_of o) (encoding_of o f) (mask_of p))
    ∙ ap (λ n. bit_and (bit_and n (mask_of p)) (mask_of o)) e
    ∙ ap (λ n. bit_and n (mask_of o)) (encoding-mask p g hg) in
    elim (overlapping o p under) [
      | inl same ↦ same
      | inr pair ↦ elim pair [
        | inl before ↦ absurd (pair_apart o p before f g (fits_shape o f hf) (fits_shape p g hg) e)
        | inr after ↦ absurd (pair_apart p o after g f (fits_shape p g hg) (fits_shape o f hf) (sym e))
      ]
    ]
