-- What holds of each row of the tables: it is computed from them.
use denote.Enum.Bare.{tag_one}
use Rattle.std.proofs.Common.{◌≡◌, ℕ, ◌<◌, ◌⊎◌, refl, arith, bit_and, sym, ap, ◌∙◌, Bool, true, not, nat_eq, ◌&&◌, ◌||◌, List, [], ◌∷◌, zero, suc, length, get_or, ltb, ltb-true, eqb-true, inl, inr}
use Rattle.std.specs.List.{list_all, list_any}
use Rattle.std.proofs.lemmas.Bool.{and_parts, or_cases, eqb-false, not-true}
use Rattle.rv_ops.specs.declared.op.Op.{Op}
use Rattle.rv_ops.specs.declared.op.Op.TheVariants.{Lui, CNop, CAddi, CAddi16sp, CLui, CJr, CMv, CEbreak, CJalr, CAdd}
use Rattle.rv_ops.specs.declared.op.Shape.{Shape}
use Rattle.rv_ops.specs.declared.op.Shape.TheVariants.{Upper}
use Rattle.rv_ops.specs.declared.table.TheConstants.{TABLE}
use Rattle.rv_ops.specs.contracts.op.Op.{the_type as op_type}
use Rattle.rv_ops.specs.Table.{Row, number_of, row_of, layout_of, fixed_of, mask_of}

-- an operation has a row
number_of-test : (o : Op) → ltb (number_of o) (length TABLE) ≡ true
number_of-test Lui = refl
number_of-test _ = refl

pub number_of-below : (o : Op) → number_of o < length TABLE
number_of-below o = ltb-true _ _ (number_of-test o)

-- two operations with one number are one
pub number_of-one : (o p : Op) → number_of o ≡ number_of p → o ≡ p
number_of-one o p e = tag_one op_type tt o p e

-- the row of an operation is its own
pub row_of-operation : (o : Op) → (row_of o).0 ≡ o
unfolding row_of
row_of-operation Lui = refl
row_of-operation _ = refl

-- the layout of a shape is its own
pub layout_of-shape : (s : Shape) → (layout_of s).0 ≡ s
unfolding layout_of
layout_of-shape Upper = refl
layout_of-shape _ = refl

-- the fixed bits of a row lie in its mask
pub fixed_of-mask : (o : Op) → bit_and (fixed_of o) (mask_of o) ≡ fixed_of o
unfolding row_of
fixed_of-mask Lui = refl
fixed_of-mask _ = refl

abbrev pub is_same : Op → Op → Bool
is_same o p = nat_eq (number_of o) (number_of p)

pub is_same-true : (o p : Op) → is_same o p ≡ true → o ≡ p
is_same-true o p e = number_of-one o p (eqb-true _ _ e)

-- the pairs of operations whose fixed bits agree in each bit that both masks hold: the classes of their registers
-- and the limits of their values tell them apart
abbrev pub overlapping_pairs : List (Op × Op)
overlapping_pairs =
    (CNop, CAddi) ∷ (CAddi16sp, CLui) ∷ (CJr, CMv) ∷ (CJalr, CAdd) ∷ (CEbreak, CJalr) ∷ (CEbreak, CAdd) ∷ []

abbrev pub is_overlapping_pair : Op → Op → Bool
is_overlapping_pair o p = list_any (λ q. is_same o q.0 && is_same p q.1) overlapping_pairs

-- the rows are one, or a pair, or differ in a fixed bit that both masks hold
abbrev pub told_apart : Op → Op → Row → Row → Bool
told_apart o p r s =
    is_same o p
    || (is_overlapping_pair o p || (is_overlapping_pair p o || not (nat_eq (bit_and r.3 s.4) (bit_and s.3 r.4))))

all_apart : list_all (λ r. list_all (λ s. told_apart r.0 s.0 r s) TABLE) TABLE ≡ true
all_apart = refl

list_all-get : {X : Type 0} (p : X → Bool) (xs : List X) (i : ℕ) (d : X) → list_all p xs ≡ true → i < length xs → p (get_or xs i d) ≡ true
list_all-get p [] i d h lt = absurd (omega arith)
list_all-get p (x ∷ xs) zero d h lt = (and_parts (p x) (list_all p xs) h).0
list_all-get p (x ∷ xs) (suc i) d h lt = list_all-get p xs i d (and_parts (p x) (list_all p xs) h).1 (omega arith)

rows_apart : (o p : Op) → told_apart (row_of o).0 (row_of p).0 (row_of o) (row_of p) ≡ true
unfolding row_of
rows_apart o p =
    let d : Row = (Lui, record { now = [] }, Upper, 0, 0) in
    list_all-get (λ s. told_apart (row_of o).0 s.0 (row_of o) s) TABLE (number_of p) d
    (list_all-get (λ r. list_all (λ s. told_apart r.0 s.0 r s) TABLE) TABLE (number_of o) d all_apart (number_of-below o))
    (number_of-below p)

-- two operations are one, or an overlapping pair, or a fixed bit that both masks hold tells them apart
pub operations_apart : (o p : Op) → told_apart o p (row_of o) (row_of p) ≡ true
operations_apart o p =
    ap (λ x. told_apart x p (row_of o) (row_of p)) (sym (row_of-operation o))
    ∙ ap (λ y. told_apart (row_of o).0 y (row_of o) (row_of p)) (sym (row_of-operation p))
    ∙ rows_apart o p

-- what two operations are whose fixed bits agree in each bit that both masks hold
pub overlapping : (o p : Op) → bit_and (fixed_of o) (mask_of p) ≡ bit_and (fixed_of p) (mask_of o) → (o ≡ p) ⊎ ((is_overlapping_pair o p ≡ true) ⊎ (is_overlapping_pair p o ≡ true))
overlapping o p e =
    elim (or_cases _ _ (operations_apart o p)) [
      | inl same ↦ inl (is_same-true o p same)
      | inr more ↦ elim (or_cases _ _ more) [
        | inl pair ↦ inr (inl pair)
        | inr more ↦ elim (or_cases _ _ more) [
          | inl pair ↦ inr (inr pair)
          | inr other ↦ absurd (eqb-false _ _ (not-true _ other) e)
        ]
      ]
    ]
