-- A value is read back from its lowest bits.
use Rattle.std.proofs.Common.{◌≡◌, ℕ, ℤ, pos, negsuc, ◌+◌, ◌-◌, ◌*◌, ◌%◌, ◌^◌, ◌<◌, ◌≤◌, ◌-ℤ◌, ◌⊎◌, subst, Bool, true, ◌&&◌, arith, zero, leb, ltb, nat_eq, leb-true, ltb-true, eqb-true, suc, ap, sym, ◌∙◌, refl, inl, inr}
use Rattle.std.proofs.lemmas.Int.{ints}
use Rattle.std.proofs.lemmas.Bool.{and_parts, cond-true, cond-false, le-ltb, lt-ltb}
use Rattle.std.proofs.lemmas.Nat.{mod-mul-add, pow-add, pow_pos}
use Rattle.std.specs.Int.{cast_unsigned, w32}
use Rattle.std.proofs.Math.Nat.{mod-eq_of_lt}
use Rattle.std.specs.Prelude.{unsigned_abs, ◌≤ℤ◌}
use Rattle.rv_ops.specs.Limits.{InLimits}
use Rattle.rv_ops.specs.declared.layouts.SignExtension.{SignExtension}
use Rattle.rv_ops.specs.declared.op.Shape.{Shape}
use Rattle.rv_ops.specs.declared.op.Shape.TheVariants.{Upper, CUpper}
use Rattle.rv_ops.specs.Table.{layout_of, limits_of, slices_of, sign_of}
use Rattle.rv_code.specs.Decoding.{value_of}
use Rattle.rv_code.proofs.Shapes.{width_of_value}

-- a multiple stays one as a number of 32 bits
pub multiple_back : (s : Shape) (v : ℤ) → unsigned_abs v % (limits_of s).multiple ≡ 0 → cast_unsigned w32 v % (limits_of s).multiple ≡ 0
unfolding layout_of
multiple_back _ (pos n) h = h
multiple_back Upper (negsuc n) h = omega (arith, h)
multiple_back _ (negsuc n) h = omega (arith, h)

-- a number that is not above the greatest stands for itself
as_it_is : (greatest n k : ℕ) (modulus : ℤ) → n ≤ greatest → n < 2 ^ k → value_of (record { greatest = pos greatest; modulus = modulus }) (n % 2 ^ k) ≡ pos n
as_it_is greatest n k modulus h below =
    let e : n % 2 ^ k ≡ n = mod-eq_of_lt below in
    ap (λ m. value_of (record { greatest = pos greatest; modulus = modulus }) m) e ∙ cond-false _ _ _ (le-ltb greatest n h)

turned : (n q m : ℕ) → q * m ≡ 2 ^ 32 → 0 < q → suc n ≤ m → cast_unsigned w32 (negsuc n) ≡ (q - 1) * m + (m - suc n)
turned n (suc q) m whole some within =
    let e : suc q * m ≡ q * m + m = omega arith in
    let d : suc q - 1 ≡ q = omega arith in
    let below : suc n ≤ 2 ^ 32 = omega (arith, whole, e, within) in
    let c : cast_unsigned w32 (negsuc n) ≡ 2 ^ 32 - suc n = omega (arith, below) in
    c ∙ omega (arith, whole, e, within) ∙ ap (λ j. j * m + (m - suc n)) (sym d)
turned n zero m whole some within = absurd (omega (arith, some))

-- one above it stands for a negative value
less_modulus : (greatest n k : ℕ) → suc n ≤ 2 ^ k → k ≤ 32 → greatest < 2 ^ k - suc n → value_of (record { greatest = pos greatest; modulus = pos (2 ^ k) }) (cast_unsigned w32 (negsuc n) % 2 ^ k) ≡ negsuc n
less_modulus greatest n k within most h =
    let q = 2 ^ (32 - k) - 1 in
    let bits : 32 - k + k ≡ 32 = omega (arith, most) in
    let whole : 2 ^ (32 - k) * 2 ^ k ≡ 2 ^ 32 = sym (pow-add 2 (32 - k) k) ∙ ap (λ j. 2 ^ j) bits in
    let some : 0 < 2 ^ (32 - k) = pow_pos (32 - k) in
    let g = 2 ^ k - suc n in
    let split : cast_unsigned w32 (negsuc n) ≡ q * 2 ^ k + g = turned n (2 ^ (32 - k)) (2 ^ k) whole some within in
    let low : cast_unsigned w32 (negsuc n) % 2 ^ k ≡ g = ap (λ m. m % 2 ^ k) split ∙ mod-mul-add q (2 ^ k) g (omega (arith, pow_pos k)) in
    let d : (pos g -ℤ pos (2 ^ k)) ≡ negsuc n = omega (arith, ints, within) in
    ap (λ m. value_of (record { greatest = pos greatest; modulus = pos (2 ^ k) }) m) low ∙ cond-true _ _ _ (lt-ltb greatest g h) ∙ d

-- the limits leave the value to so many bits: the greatest stands for itself, and the number of the least, where it
-- is negative, is above that
abbrev is_held : ℤ → ℕ → ℕ → ℕ → ℕ → Bool
is_held (pos least) greatest itself modulus k = ltb greatest (2 ^ k) && leb greatest itself
is_held (negsuc least) greatest itself modulus k =
    ltb greatest (2 ^ k) && (leb greatest itself && (ltb (itself + suc least) (2 ^ k) && (nat_eq modulus (2 ^ k) && leb k 32)))

record IsWithin (least : ℤ) (greatest : ℕ) (v : ℤ) : Type 0 where
  low : least ≤ℤ v
  high : v ≤ℤ pos greatest

held_back : (least : ℤ) (greatest itself modulus k : ℕ) (v : ℤ) → is_held least greatest itself modulus k ≡ true → IsWithin least greatest v → value_of (record { greatest = pos itself; modulus = pos modulus }) (cast_unsigned w32 v % 2 ^ k) ≡ v
held_back (pos least) greatest itself modulus k (pos n) e h =
    let parts = and_parts (ltb greatest (2 ^ k)) (leb greatest itself) e in
    let below = ltb-true _ _ parts.0 in
    let most = leb-true _ _ parts.1 in
    as_it_is itself n k (pos modulus) (omega (arith, ints, h.high, most)) (omega (arith, ints, h.high, below))
held_back (pos least) greatest itself modulus k (negsuc n) e h = absurd (omega (arith, ints, h.low))
held_back (negsuc least) greatest itself modulus k (pos n) e h =
    let rest = ltb (itself + suc least) (2 ^ k) && (nat_eq modulus (2 ^ k) && leb k 32) in
    let parts = and_parts (ltb greatest (2 ^ k)) (leb greatest itself && rest) e in
    let below = ltb-true _ _ parts.0 in
    let most = leb-true _ _ (and_parts (leb greatest itself) rest parts.1).0 in
    as_it_is itself n k (pos modulus) (omega (arith, ints, h.high, most)) (omega (arith, ints, h.high, below))
held_back (negsuc least) greatest itself modulus k (negsuc n) e h =
    let bits = nat_eq modulus (2 ^ k) && leb k 32 in
    let rest = ltb (itself + suc least) (2 ^ k) && bits in
    let parts = and_parts (leb greatest itself) rest (and_parts (ltb greatest (2 ^ k)) (leb greatest itself && rest) e).1 in
    let ends = and_parts (ltb (itself + suc least) (2 ^ k)) bits parts.1 in
    let above : itself + suc least < 2 ^ k = ltb-true _ _ ends.0 in
    let last = and_parts (nat_eq modulus (2 ^ k)) (leb k 32) ends.1 in
    let same : modulus ≡ 2 ^ k = eqb-true _ _ last.0 in
    let low : n ≤ least = omega (arith, ints, h.low) in
    ap (λ j. value_of (record { greatest = pos itself; modulus = pos j }) (cast_unsigned w32 (negsuc n) % 2 ^ k)) same
    ∙ less_modulus itself n k (omega (arith, low, above)) (leb-true _ _ last.1) (omega (arith, low, above))

c_upper_back : (v : ℤ) → InLimits (limits_of CUpper) v → value_of (sign_of CUpper) (cast_unsigned w32 v % 2 ^ 6) ≡ v
unfolding layout_of
c_upper_back (pos n) h = elim h.gap [
  | inl low ↦ as_it_is 31 n 6 (negsuc 1048511) (omega (arith, ints, low)) (omega (arith, ints, low))
  | inr high ↦
      let g : 31 < n % 2 ^ 6 = omega (arith, ints, high, h.high) in
      let d : (pos (n % 2 ^ 6) -ℤ negsuc 1048511) ≡ pos n = omega (arith, ints, high, h.high) in
      cond-true _ _ _ (lt-ltb 31 (n % 2 ^ 6) g) ∙ d
]
c_upper_back (negsuc n) h = absurd (omega (arith, ints, h.low))

-- what the limits and the sign of a shape are, as natural numbers
abbrev natural : ℤ → ℕ
natural (pos n) = n
natural (negsuc n) = 0

abbrev is_held_by : Shape → Bool
is_held_by s =
    is_held (limits_of s).least (natural (limits_of s).greatest) (natural (sign_of s).greatest) (natural (sign_of s).modulus) (width_of_value (slices_of s))

record IsHeld (s : Shape) : Type 0 where
  greatest : (limits_of s).greatest ≡ pos (natural (limits_of s).greatest)
  itself : (sign_of s).greatest ≡ pos (natural (sign_of s).greatest)
  modulus : (sign_of s).modulus ≡ pos (natural (sign_of s).modulus)
  held : is_held_by s ≡ true

-- the bits hold the value of each shape but the one whose limits have a gap
held : (s : Shape) → (s ≡ CUpper) ⊎ IsHeld s
unfolding layout_of
held CUpper = inl refl
held Upper = inr (record { greatest = refl; itself = refl; modulus = refl; held = refl })
held _ = inr (record { greatest = refl; itself = refl; modulus = refl; held = refl })

by_bits : (s : Shape) (v : ℤ) → IsHeld s → InLimits (limits_of s) v → value_of (sign_of s) (cast_unsigned w32 v % 2 ^ width_of_value (slices_of s)) ≡ v
by_bits s v held h =
    let sign : ℤ → ℤ → SignExtension = λ g m. record { greatest = g; modulus = m } in
    let n = cast_unsigned w32 v % 2 ^ width_of_value (slices_of s) in
    ap (λ g. value_of (sign g (sign_of s).modulus) n) held.itself
    ∙ ap (λ m. value_of (sign (pos (natural (sign_of s).greatest)) m) n) held.modulus
    ∙ held_back _ _ _ _ _ v held.held (record { low = h.low; high = subst (λ g. v ≤ℤ g) held.greatest h.high })

pub value_back : (s : Shape) (v : ℤ) → InLimits (limits_of s) v → value_of (sign_of s) (cast_unsigned w32 v % 2 ^ width_of_value (slices_of s)) ≡ v
unfolding layout_of
value_back s v h = elim (held s) [
  | inl upper ↦ subst (λ t. (w : ℤ) → InLimits (limits_of t) w → value_of (sign_of t) (cast_unsigned w32 w % 2 ^ width_of_value (slices_of t)) ≡ w) (sym upper) c_upper_back v h
  | inr by ↦ by_bits s v by h
]
