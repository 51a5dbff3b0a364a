-- A value has no fault exactly where it is within the limits.
use Rattle.std.proofs.Common.{◌≡◌, ℤ, ◌%◌, ◌≤ℤ◌, ◌<ℤ◌, ◌⊎◌, arith, inl, inr, refl, true, false, cond, Bool, ◌&&◌, ◌||◌, None, Some}
use Rattle.std.specs.Prelude.{nat_eq, int_lt, int_le, unsigned_abs, Option}
use Rattle.std.proofs.lemmas.Bool.{eqb-true, eq-eqb}
use Rattle.std.proofs.lemmas.Int.{ints}
use Rattle.rv_ops.specs.declared.value_limits.Limits.{Limits}
use Rattle.rv_ops.specs.declared.value_limits.LimitFault.{LimitFault}
use Rattle.rv_ops.specs.declared.value_limits.LimitFault.TheVariants.{Range, Multiple}
use Rattle.rv_ops.specs.Limits.{limit_fault, InLimits}

-- what the four tests find
abbrev fault_of : Bool → Bool → Bool → Bool → Option LimitFault
fault_of below above within multiple =
    cond (below || (above || within)) (Some Range) (cond multiple None (Some Multiple))

record ArePassed (below above within multiple : Bool) : Type 0 where
  not_below : below ≡ false
  not_above : above ≡ false
  not_within : within ≡ false
  is_multiple : multiple ≡ true

are_passed : (below above within multiple : Bool) → fault_of below above within multiple ≡ None → ArePassed below above within multiple
are_passed true above within multiple e = absurd (cc)
are_passed false true within multiple e = absurd (cc)
are_passed false false true multiple e = absurd (cc)
are_passed false false false true e = record { not_below = refl; not_above = refl; not_within = refl; is_multiple = refl }
are_passed false false false false e = absurd (cc)

passed : (below above within multiple : Bool) → below ≡ false → above ≡ false → within ≡ false → multiple ≡ true → fault_of below above within multiple ≡ None
passed below above within multiple b a w m = rw b (rw a (rw w (rw m refl)))

outside : (first last v : ℤ) → (int_le first v && int_le v last) ≡ false → (v <ℤ first) ⊎ (last <ℤ v)
outside first last v e = by (int_le first v) (int_le v last) refl refl e
  where
    by : (after before : Bool) → int_le first v ≡ after → int_le v last ≡ before → (after && before) ≡ false → (v <ℤ first) ⊎ (last <ℤ v)
    by false before p q e = inl (omega (arith, ints))
    by true false p q e = inr (omega (arith, ints))
    by true true p q e = absurd (cc)

not_less : (a b : ℤ) → b ≤ℤ a → int_lt a b ≡ false
not_less a b h = by (int_lt a b) refl
  where
    by : (t : Bool) → int_lt a b ≡ t → t ≡ false
    by true e = absurd (omega (arith, ints))
    by false e = refl

no_gap : (first last v : ℤ) → (v <ℤ first) ⊎ (last <ℤ v) → (int_le first v && int_le v last) ≡ false
no_gap first last v h = by (int_le first v) (int_le v last) refl refl
  where
    by : (after before : Bool) → int_le first v ≡ after → int_le v last ≡ before → (after && before) ≡ false
    by false before p q = refl
    by true false p q = refl
    by true true p q = absurd (elim h [ inl a ↦ omega (arith, ints, a) | inr b ↦ omega (arith, ints, b) ])

-- a value without a fault is within the limits
pub in_limits : (l : Limits) (v : ℤ) → limit_fault l v ≡ None → InLimits l v
unfolding limit_fault
in_limits l v e =
    let t = are_passed (int_lt v l.least) (int_lt l.greatest v) (int_le l.gap_first v && int_le v l.gap_last) (nat_eq (unsigned_abs v % l.multiple) 0) e in
    let below : int_lt v l.least ≡ false = t.not_below in
    let above : int_lt l.greatest v ≡ false = t.not_above in
    record {
      low = omega (arith, ints, below);
      high = omega (arith, ints, above);
      multiple = eqb-true _ _ t.is_multiple;
      gap = outside l.gap_first l.gap_last v t.not_within;
    }

-- and one within them has no fault
pub no_fault : (l : Limits) (v : ℤ) → InLimits l v → limit_fault l v ≡ None
unfolding limit_fault
no_fault l v h =
    passed _ _ _ _ (not_less v l.least h.low) (not_less l.greatest v h.high) (no_gap l.gap_first l.gap_last v h.gap) (eq-eqb _ _ h.multiple)
