-- The row of each operation stands in the group of its words.
use Rattle.std.proofs.Common.{◌≡◌, ℕ, ◌+◌, ◌-◌, ◌/◌, ◌%◌, ◌^◌, ◌<◌, ◌≤◌, refl, arith, bit_and, sym, ap, ◌∙◌, Bool, true, false, cond, ◌&&◌, ◌||◌, nat_eq, ltb, leb, ltb-true, leb-true, eqb-true, zero, suc, lt-ltb, List, [], ◌∷◌, map, take, drop, length, get_or, get_or-take, get_or-drop, length-drop}
use Rattle.std.proofs.lemmas.Bool.{and_parts, false≢true}
use Rattle.std.proofs.lemmas.List.{take-map, drop-map, get_or-map, length-map, length-take}
use Rattle.std.proofs.lemmas.Nat.{and_assoc}
use Rattle.std.specs.Cmp.Derive.{both_true}
use Rattle.std.specs.List.{list_all}
use Rattle.std.specs.Prelude.{slice_index_or}
use Rattle.rv_code.specs.declared.groups.TheConstants.{FULL_GROUPS, HALF_GROUPS}
use Rattle.rv_ops.specs.declared.op.Op.{Op}
use Rattle.rv_ops.specs.declared.op.Op.TheVariants.{Lui}
use Rattle.rv_ops.specs.declared.table.TheConstants.{TABLE}
use Rattle.rv_ops.specs.Table.{no_row, number_of, row_of, fixed_of, mask_of, is_full}
use Rattle.rv_ops.specs.TableLaws.{number_of-below}
use Rattle.rv_code.specs.Decoding.{Code, code_of, is_code_for}
use Rattle.rv_code.specs.Groups.{is_group, table_codes, codes_of_group, codes_of_full_group, codes_of_half_group, full_number, half_number, full_group, half_group}

-- what a part of some rows is mapped to
pub mapped_part : {A B : Type 0} (f : A → B) (part rows : List A) (mapped : List B) (first count : ℕ) → part ≡ take count (drop first rows) → map f rows ≡ mapped → map f part ≡ take count (drop first mapped)
mapped_part f part rows mapped first count e h =
    ap (map f) e
    ∙ sym (take-map f count (drop first rows))
    ∙ ap (take count) (sym (drop-map f first rows))
    ∙ ap (λ xs. take count (drop first xs)) h

-- each of some groups is a range of the table
pub group-within : (groups : List (ℕ × ℕ)) (i : ℕ) → list_all is_group groups ≡ true → i < length groups → is_group (slice_index_or groups i (0, 0)) ≡ true
group-within [] i all l = absurd (omega (arith, l))
group-within (g ∷ gs) zero all l = (and_parts (is_group g) (list_all is_group gs) all).0
group-within (g ∷ gs) (suc i) all l = group-within gs i (and_parts (is_group g) (list_all is_group gs) all).1 (omega (arith, l))

-- a group has the row of an operation, whose mask has the bits that tell the group
record IsIn (o : Op) (g : ℕ × ℕ) (bits : ℕ) : Type 0 where
  pub first : g.0 ≤ number_of o
  pub end : number_of o < g.1
  pub mask : bit_and (mask_of o) bits ≡ bits

test : Op → ℕ × ℕ → ℕ → Bool
test o g bits = leb g.0 (number_of o) && (ltb (number_of o) g.1 && nat_eq (bit_and (mask_of o) bits) bits)

tested : (o : Op) (g : ℕ × ℕ) (bits : ℕ) → test o g bits ≡ true → IsIn o g bits
unfolding test
tested o g bits h =
    let parts = and_parts (leb g.0 (number_of o)) _ h in
    let more = and_parts (ltb (number_of o) g.1) _ parts.1 in
    record { first = leb-true _ _ parts.0; end = ltb-true _ _ more.0; mask = eqb-true _ _ more.1 }

full_test : (o : Op) → cond (is_full o) (test o (full_group (fixed_of o)) 0x7c) true ≡ true
unfolding row_of test
full_test Lui = refl
full_test _ = refl

half_test : (o : Op) → cond (is_full o) true (test o (half_group (fixed_of o)) 0xe003) ≡ true
unfolding row_of test
half_test Lui = refl
half_test _ = refl

in_full_group : (o : Op) → is_full o ≡ true → IsIn o (full_group (fixed_of o)) 0x7c
in_full_group o e = tested o (full_group (fixed_of o)) 0x7c (let h = full_test o in rw e at h)

in_half_group : (o : Op) → is_full o ≡ false → IsIn o (half_group (fixed_of o)) 0xe003
in_half_group o e = tested o (half_group (fixed_of o)) 0xe003 (let h = half_test o in rw e at h)

-- a word with the fixed bits of an operation has the bits that tell its group
same_bits : (w mask fixed bits : ℕ) → bit_and w mask ≡ fixed → bit_and mask bits ≡ bits → bit_and fixed bits ≡ bit_and w bits
same_bits w mask fixed bits e h = ap (λ n. bit_and n bits) (sym e) ∙ and_assoc bits w mask ∙ ap (bit_and w) h

-- the code of an operation at its place in a group
module _ (o : Op) (g : ℕ × ℕ) (first : g.0 ≤ number_of o) (end : number_of o < g.1) where
  within : number_of o - g.0 < g.1 - g.0
  within = omega (arith, first, end)

  pub place : number_of o - g.0 < length (codes_of_group g)
  unfolding table_codes
  place =
      let all : length (drop g.0 table_codes) ≡ length TABLE - g.0 = length-drop g.0 table_codes ∙ ap (λ n. n - g.0) (length-map TABLE code_of) in
      let below = number_of-below o in
      rw length-take (omega (arith, all, within, below))

  pub code : get_or (codes_of_group g) (number_of o - g.0) (code_of no_row) ≡ code_of (row_of o)
  unfolding table_codes row_of
  code =
      let there : g.0 + (number_of o - g.0) ≡ number_of o = omega (arith, first) in
      get_or-take (g.1 - g.0) (drop g.0 table_codes) (number_of o - g.0) (code_of no_row) within
      ∙ get_or-drop g.0 table_codes (number_of o - g.0) (code_of no_row)
      ∙ ap (λ k. get_or table_codes k (code_of no_row)) there
      ∙ get_or-map code_of TABLE (number_of o) no_row (code_of no_row) (number_of-below o)

-- the group of a word that has the fixed bits of an operation
pub record HasRow (o : Op) (g : ℕ × ℕ) : Type 0 where
  pub first : g.0 ≤ number_of o
  pub end : number_of o < g.1

pub full_row : (o : Op) (w : ℕ) → is_full o ≡ true → bit_and w (mask_of o) ≡ fixed_of o → HasRow o (full_group w)
full_row o w full e =
    let h = in_full_group o full in
    let same : full_number (fixed_of o) ≡ full_number w = ap (λ n. n / 4) (same_bits w (mask_of o) (fixed_of o) 0x7c e h.mask) in
    let its : HasRow o (full_group (fixed_of o)) = record { first = h.first; end = h.end } in
    rw same at its

pub half_row : (o : Op) (w : ℕ) → is_full o ≡ false → bit_and w (mask_of o) ≡ fixed_of o → HasRow o (half_group w)
half_row o w half e =
    let h = in_half_group o half in
    let same : half_number (fixed_of o) ≡ half_number w = ap (λ n. n / 2048 + n % 4) (same_bits w (mask_of o) (fixed_of o) 0xe003 e h.mask) in
    let its : HasRow o (half_group (fixed_of o)) = record { first = h.first; end = h.end } in
    rw same at its

-- the fixed bits and the mask of a code are those of its operation, and the word has no more bits than its encodings
pub record IsCodeFor (w : ℕ) (c : Code) : Type 0 where
  pub fixed : c.1 ≡ fixed_of c.0
  pub mask : c.2 ≡ mask_of c.0
  pub size : is_full c.0 ≡ false → w < 2 ^ 16

of_size : (fixed mask full v w : Bool) → (v ≡ true → w ≡ true) → (fixed && (mask && (full || v))) ≡ true → (fixed && (mask && (full || w))) ≡ true
of_size true true true v w h e = refl
of_size true true false v w h e = h e
of_size true false full v w h e = absurd (cc)
of_size false mask full v w h e = absurd (cc)

all_of_size : (v w : ℕ) (cs : List Code) → (ltb v (2 ^ 16) ≡ true → ltb w (2 ^ 16) ≡ true) → list_all (is_code_for v) cs ≡ true → list_all (is_code_for w) cs ≡ true
all_of_size v w [] h e = refl
all_of_size v w (c ∷ cs) h e =
    let parts = and_parts (is_code_for v c) (list_all (is_code_for v) cs) e in
    both_true (of_size (nat_eq c.1 (fixed_of c.0)) (nat_eq c.2 (mask_of c.0)) (is_full c.0) (ltb v (2 ^ 16)) (ltb w (2 ^ 16)) h parts.0) (all_of_size v w cs h parts.1)

in_groups : (p : ℕ × ℕ → Bool) (gs : List (ℕ × ℕ)) (number : ℕ) (d : ℕ × ℕ) → list_all p gs ≡ true → p d ≡ true → p (slice_index_or gs number d) ≡ true
in_groups p [] number d all e = e
in_groups p (g ∷ gs) zero d all e = (and_parts (p g) (list_all p gs) all).0
in_groups p (g ∷ gs) (suc number) d all e = in_groups p gs number d (and_parts (p g) (list_all p gs) all).1 e

are_codes : ℕ → ℕ × ℕ → Bool
are_codes w g = list_all (is_code_for w) (codes_of_group g)

full_codes : list_all (are_codes (2 ^ 32)) FULL_GROUPS ≡ true
unfolding are_codes table_codes row_of
full_codes = refl

half_codes : list_all (are_codes 0) HALF_GROUPS ≡ true
unfolding are_codes table_codes row_of
half_codes = refl

-- the operations of a group have the size of its words
pub in_full_codes : (cs : List Code) (v w : ℕ) → cs ≡ codes_of_full_group w → list_all (is_code_for v) cs ≡ true
unfolding are_codes
in_full_codes cs v w e =
    ap (list_all (is_code_for v)) e
    ∙ all_of_size (2 ^ 32) v (codes_of_full_group w) (λ t. absurd (false≢true t)) (in_groups (are_codes (2 ^ 32)) FULL_GROUPS (full_number w) (0, 0) full_codes refl)

pub in_half_codes : (cs : List Code) (v w : ℕ) → cs ≡ codes_of_half_group w → v < 2 ^ 16 → list_all (is_code_for v) cs ≡ true
unfolding are_codes
in_half_codes cs v w e h =
    ap (list_all (is_code_for v)) e
    ∙ all_of_size 0 v (codes_of_half_group w) (λ t. lt-ltb v (2 ^ 16) h) (in_groups (are_codes 0) HALF_GROUPS (half_number w) (0, 0) half_codes refl)
