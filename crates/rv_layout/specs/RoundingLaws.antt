-- The laws of rounding up.
use Rattle.std.proofs.Common.{◌≡◌, ℕ, zero, suc, ◌+◌, ◌-◌, ◌%◌, ◌*◌, ◌/◌, ◌<◌, ◌≤◌, arith, ap, sym, ◌∙◌, refl}
use Rattle.std.proofs.Math.Nat.{add-mul-mod_self_right, mod-eq_of_lt, mod_self, sub-zero, lt_of_mul-lt-mul_right, mul-le-mul_right, le_antisymm, mul-pos, mul_assoc}
use Rattle.std.proofs.lemmas.Nat.{mod_below, div-add-mod'}
use Rattle.rv_layout.specs.Rounding.{padding, round_up}

-- a multiple of k that is added stays outside
pub padding-add_mul : (x j k : ℕ) → padding (x + j * k) k ≡ padding x k
padding-add_mul x j k = ap (λ r. (k - r) % k) (add-mul-mod_self_right x j k)

pub round_up-add_mul : (x j k : ℕ) → round_up (x + j * k) k ≡ round_up x k + j * k
round_up-add_mul x j k = omega (arith, padding-add_mul x j k)

pub round_up-below : (x k : ℕ) → 0 < k → round_up x k < x + k
round_up-below x k h = omega (arith, mod_below (k - x % k) k h)

pub round_up-above : (x k : ℕ) → x ≤ round_up x k
round_up-above x k = omega arith

multiple_at : (x k r : ℕ) → 0 < k → x % k ≡ r → (i : ℕ) × (round_up x k ≡ i * k)
multiple_at x k zero h e = (
  x / k,
  let p : padding x k ≡ 0 = ap (λ r. (k - r) % k) e ∙ ap (λ r. r % k) (sub-zero k) ∙ mod_self k in
      omega (arith, p, div-add-mod' x k, e),
)
multiple_at x k (suc r) h e = (
  x / k + 1,
  let l : k - suc r < k = omega arith in
      let p : padding x k ≡ k - suc r = ap (λ r. (k - r) % k) e ∙ mod-eq_of_lt l in
      omega (arith, p, div-add-mod' x k, e, mod_below x k h),
)

pub round_up-multiple : (x k : ℕ) → 0 < k → (i : ℕ) × (round_up x k ≡ i * k)
round_up-multiple x k h = multiple_at x k (x % k) h refl

-- the multiplier of a number that is less than one multiple above another
multipliers_le : (i j k : ℕ) → i * k < j * k + k → i ≤ j
multipliers_le i j k l = let less : i < j + 1 = lt_of_mul-lt-mul_right k (let e : (j + 1) * k ≡ j * k + k = omega arith in omega (arith, e)) in omega (arith, less)

-- the least multiple that is not below x
pub round_up-least : (x k j : ℕ) → 0 < k → x ≤ j * k → round_up x k ≤ j * k
round_up-least x k j h l =
    let (i, e) = round_up-multiple x k h in
    let b = round_up-below x k h in
    let fewer : i ≤ j = multipliers_le i j k (omega (arith, e, b, l)) in
    omega (arith, e, mul-le-mul_right k fewer)

pub round_up-unique : (x k j : ℕ) → 0 < k → x ≤ j * k → j * k < x + k → round_up x k ≡ j * k
round_up-unique x k j h l b =
    let (i, e) = round_up-multiple x k h in
    let fewer : j ≤ i = multipliers_le j i k (omega (arith, e, round_up-above x k, b)) in
    le_antisymm (round_up-least x k j h l) (omega (arith, e, mul-le-mul_right k fewer))

-- a finer rounding before a coarser one changes nothing
pub round_up-round_up : (x k s : ℕ) → 0 < k → 0 < s → round_up (round_up x k) (s * k) ≡ round_up x (s * k)
round_up-round_up x k s h g =
    let pos : 0 < s * k = mul-pos g h in
    let (j, e) = round_up-multiple x (s * k) pos in
    let split : j * (s * k) ≡ (j * s) * k = sym (mul_assoc j s k) in
    let low : round_up x k ≤ j * (s * k) = let l : x ≤ (j * s) * k = omega (arith, e, split, round_up-above x (s * k)) in omega (arith, split, round_up-least x k (j * s) h l) in
    let high : j * (s * k) < round_up x k + s * k = omega (arith, e, round_up-above x k, round_up-below x (s * k) pos) in
    round_up-unique (round_up x k) (s * k) j pos low high ∙ sym e
