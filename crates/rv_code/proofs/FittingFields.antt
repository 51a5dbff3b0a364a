-- Which fields the operations of a shape take.
use Rattle.std.proofs.Common.{inl, inr, zero, suc, Bool, true, false, cond, Option, Some, None, ap, leb, leb-true, le-leb, lt-ltb, IsTrue, ◌≤◌, ◌&&◌}
use Rattle.std.specs.Option.{IfSome}
use Rattle.std.specs.Prelude.{IsSome}
use Rattle.std.proofs.lemmas.Bool.{and_parts}
use Rattle.std.proofs.Common.{◌≡◌, ℕ, ◌<◌, refl, sym, subst, arith}
use Rattle.std.specs.Prelude.{ℤ, pos, negsuc, ◌≤ℤ◌, ◌<ℤ◌, ◌⊎◌, unsigned_abs, ◌%◌}
use Rattle.std.proofs.lemmas.Int.{ints}
use Rattle.rv_ops.specs.declared.op.Op.{Op}
use Rattle.rv_ops.specs.declared.op.Shape.TheVariants.{Register, Immediate}
use Rattle.rv_ops.specs.Limits.{InLimits}
use Rattle.rv_ops.specs.LimitLaws.{in_limits, no_fault}
use Rattle.rv_ops.specs.Table.{layout_of, shape_of, classes_of, limits_of}
use Rattle.rv_code.specs.Encoding.{is_immediate, is_in, Fits, register_fields, immediate_fields}

-- a gap that begins above its end is empty
no_gap : (v : ℤ) → (v <ℤ pos 1) ⊎ (pos 0 <ℤ v)
no_gap (pos zero) = inl (omega (arith, ints))
no_gap (pos (suc n)) = inr (omega (arith, ints))
no_gap (negsuc n) = inl (omega (arith, ints))

pub register_fields-fit : (o : Op) (a b c : ℕ) → shape_of o ≡ Register → a < 32 → b < 32 → c < 32 → Fits o (register_fields a b c)
unfolding layout_of
register_fields-fit o a b c e ha hb hc = record {
  rd = subst (λ s. IsTrue (is_in (classes_of s).rd a)) (sym e) (lt-ltb a 32 ha);
  rs1 = subst (λ s. IsTrue (is_in (classes_of s).rs1 b)) (sym e) (lt-ltb b 32 hb);
  rs2 = subst (λ s. IsTrue (is_in (classes_of s).rs2 c)) (sym e) (lt-ltb c 32 hc);
  value = no_fault _ _ (subst (λ s. InLimits (limits_of s) (pos 0)) (sym e) (record { low = omega (arith, ints); high = omega (arith, ints); multiple = refl; gap = no_gap (pos 0) }));
}

pub record IsTwelveBits (v : ℤ) : Type 0 where
  pub low : negsuc 2047 ≤ℤ v
  pub high : v ≤ℤ pos 2047

one_divides : (v : ℤ) → unsigned_abs v % 1 ≡ 0
one_divides v = omega arith

pub immediate_fields-fit : (o : Op) (a b : ℕ) (v : ℤ) → shape_of o ≡ Immediate → a < 32 → b < 32 → IsTwelveBits v → Fits o (immediate_fields a b v)
unfolding layout_of
immediate_fields-fit o a b v e ha hb h = record {
  rd = subst (λ s. IsTrue (is_in (classes_of s).rd a)) (sym e) (lt-ltb a 32 ha);
  rs1 = subst (λ s. IsTrue (is_in (classes_of s).rs1 b)) (sym e) (lt-ltb b 32 hb);
  rs2 = subst (λ s. IsTrue (is_in (classes_of s).rs2 0)) (sym e) refl;
  value = no_fault _ _ (subst (λ s. InLimits (limits_of s) v) (sym e) (record { low = h.low; high = h.high; multiple = one_divides v; gap = no_gap v }));
}

pub immediate_fields-only : (o : Op) (a b : ℕ) (v : ℤ) → shape_of o ≡ Immediate → Fits o (immediate_fields a b v) → IsTwelveBits v
unfolding layout_of
immediate_fields-only o a b v e h =
    let limits : InLimits (limits_of Immediate) v = subst (λ s. InLimits (limits_of s) v) e (in_limits _ _ h.value) in
    record { low = limits.low; high = limits.high }

pub is_immediate-true : (v : ℤ) → is_immediate v ≡ true → (negsuc 2047 ≤ℤ v) × (v ≤ℤ pos 2047)
is_immediate-true (pos n) e = let h : n ≤ 2047 = leb-true n 2047 e in (omega (arith, ints), omega (arith, ints))
is_immediate-true (negsuc n) e =
    let h : n ≤ 2047 = leb-true n 2047 (and_parts (leb n 2047) true e).0 in
    (omega (arith, ints), omega (arith, ints))

pub true-is_immediate : (v : ℤ) → (negsuc 2047 ≤ℤ v) × (v ≤ℤ pos 2047) → is_immediate v ≡ true
true-is_immediate (pos n) h = le-leb n 2047 (omega (arith, ints, h.1))
true-is_immediate (negsuc n) h = ap (λ b. b && true) (le-leb n 2047 (omega (arith, ints, h.0)))

-- what is there exactly where a test holds, and then is x
pub chosen : {A : Type 0} (r : Option A) (test : Bool) (x : A) → (IsSome r → test ≡ true) → (test ≡ true → IsSome r) → IfSome r (λ y. y ≡ x) → r ≡ cond test (Some x) None
chosen None true x f g h = let e : false ≡ true = g refl in absurd (cc)
chosen None false x f g h = refl
chosen (Some y) true x f g h = ap (λ z. Some z) h
chosen (Some y) false x f g h = let e : false ≡ true = f refl in absurd (cc)
