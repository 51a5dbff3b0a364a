-- The registers of a class, by bounds.
use denote.Enum.Declared.{tag_of}
use Rattle.std.proofs.Common.{◌≡◌, ◌∙◌, ℕ, zero, suc, ◌/◌, ◌%◌, ◌^◌, ◌<◌, ◌≤◌, Bool, true, false, cond, nat_eq, ap, sym, refl, arith, inl, inr, leb, ltb, eqb, leb-true, ltb-true, eqb-true, not, ◌&&◌, IsTrue}
use Rattle.std.proofs.lemmas.Bool.{and_parts, eqb-false, not-true}
use Rattle.std.proofs.Math.Nat.{eq-or-lt_of_le}
use Rattle.std.specs.Prelude.{slice_index_or}
use Rattle.rv_ops.specs.contracts.layouts.RegisterClass.{the_type as class_type}
use Rattle.rv_ops.specs.declared.layouts.RegisterClass.{RegisterClass}
use Rattle.rv_ops.specs.declared.layouts.RegisterClass.TheVariants.{Absent, Any, NotZero, NotSp, Prime, Set}
use Rattle.rv_code.specs.declared.fitting.TheConstants.{MEMBERS}
use Rattle.rv_code.specs.Encoding.{is_in}

abbrev pub InClass : RegisterClass → ℕ → Type 0
InClass Absent n = n ≡ 0
InClass Any n = n < 32
InClass NotZero n = (0 < n) × (n < 32)
InClass NotSp n = (0 < n) × (n < 32) × (n ≡ 2 → ⊥)
InClass Prime n = (8 ≤ n) × (n < 16)
InClass Set n = (0 < n) × (n < 16)

above_zero : (n m : ℕ) → (ltb 0 n && ltb n m) ≡ true → (0 < n) × (n < m)
above_zero n m e =
    let parts = and_parts (ltb 0 n) (ltb n m) e in
    (ltb-true 0 n parts.0, ltb-true n m parts.1)

pub in_class : (c : RegisterClass) (n : ℕ) → IsTrue (is_in c n) → InClass c n
in_class Absent n e = eqb-true n 0 e
in_class Any n e = ltb-true n 32 e
in_class NotZero n e = above_zero n 32 e
in_class NotSp n e =
    let parts = and_parts (ltb 0 n && ltb n 32) (not (eqb n 2)) e in
    let bounds = above_zero n 32 parts.0 in
    (bounds.0, bounds.1, eqb-false n 2 (not-true (eqb n 2) parts.1))
in_class Prime n e =
    let parts = and_parts (leb 8 n) (ltb n 16) e in
    (leb-true 8 n parts.0, ltb-true n 16 parts.1)
in_class Set n e = above_zero n 16 e

-- two tests agree on each number below a bound
agree : (ℕ → Bool) → (ℕ → Bool) → ℕ → Bool
agree p q zero = true
agree p q (suc k) = cond (p k) (q k) (not (q k)) && agree p q k

same : (s t : Bool) → cond s t (not t) ≡ true → s ≡ t
same true true e = refl
same true false e = absurd (cc)
same false true e = absurd (cc)
same false false e = refl

agreed : (p q : ℕ → Bool) (k n : ℕ) → agree p q k ≡ true → n < k → p n ≡ q n
unfolding agree
agreed p q zero n e h = absurd (omega (arith, h))
agreed p q (suc k) n e h =
    let parts = and_parts (cond (p k) (q k) (not (q k))) (agree p q k) e in
    let within : n ≤ k = omega (arith, h) in
    elim (eq-or-lt_of_le within) [
      | inl last ↦ ap p last ∙ same (p k) (q k) parts.0 ∙ ap q (sym last)
      | inr below ↦ agreed p q k n parts.1 below
    ]

-- the bit of a register among the members of a class
pub is_member : RegisterClass → ℕ → Bool
is_member c n = nat_eq (slice_index_or MEMBERS (tag_of class_type c) 0 / 2 ^ n % 2) 1

members : (c : RegisterClass) → agree (is_member c) (is_in c) 32 ≡ true
unfolding agree is_member
members Absent = refl
members _ = refl

pub member-is_in : (c : RegisterClass) (n : ℕ) → n < 32 → nat_eq (slice_index_or MEMBERS (tag_of class_type c) 0 / 2 ^ n % 2) 1 ≡ is_in c n
unfolding is_member
member-is_in c n h = agreed (is_member c) (is_in c) 32 n (members c) h
