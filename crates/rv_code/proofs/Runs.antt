-- What a mask leaves of a word: the bits of its runs of ones.
use Rattle.std.proofs.Common.{◌≡◌, ℕ, ◌+◌, ◌-◌, ◌*◌, ◌/◌, ◌%◌, ◌^◌, ◌<◌, List, [], ◌∷◌, arith, bit_and, sym, ◌∙◌, ap}
use Rattle.std.proofs.lemmas.Nat.{and_mask, and_block, pow_pos, shr_split, shr-shr, mod_below, pow-add}
use Rattle.std.proofs.Math.Nat.{mod-mod}
use Rattle.std.specs.Int.Bits.{and_zero_r}

-- the runs, the lowest first: the zeros below it, and its ones
abbrev pub Runs : Type 0
Runs = List (ℕ × ℕ)

abbrev pub mask_of_runs : Runs → ℕ
mask_of_runs [] = 0
mask_of_runs (r ∷ rs) = (mask_of_runs rs * 2 ^ r.1 + (2 ^ r.1 - 1)) * 2 ^ r.0

-- the bits of a word that stand in the runs, of which the first begins at a bit
abbrev pub bits_of_runs : Runs → ℕ → ℕ → ℕ
bits_of_runs [] k w = 0
bits_of_runs (r ∷ rs) k w = (w / 2 ^ (k + r.0) % 2 ^ r.1) * 2 ^ (k + r.0) + bits_of_runs rs (k + r.0 + r.1) w

-- a mask that ends in k ones
pub and_ones : (w m k : ℕ) → bit_and w (m * 2 ^ k + (2 ^ k - 1)) ≡ bit_and (w / 2 ^ k) m * 2 ^ k + w % 2 ^ k
and_ones w m k =
    let low : 2 ^ k - 1 < 2 ^ k = omega (arith, pow_pos k) in
    ap (λ n. bit_and n (m * 2 ^ k + (2 ^ k - 1))) (sym (shr_split w k))
    ∙ and_block k (w / 2 ^ k) m (w % 2 ^ k) (2 ^ k - 1) (mod_below w (2 ^ k) (pow_pos k)) low
    ∙ ap (λ n. bit_and (w / 2 ^ k) m * 2 ^ k + n) (and_mask (w % 2 ^ k) k ∙ mod-mod _ _)

-- a mask that ends in k zeros
pub and_gap : (w m k : ℕ) → bit_and w (m * 2 ^ k) ≡ bit_and (w / 2 ^ k) m * 2 ^ k
and_gap w m k =
    let e : m * 2 ^ k ≡ m * 2 ^ k + 0 = omega arith in
    ap (λ n. bit_and w n) e
    ∙ ap (λ n. bit_and n (m * 2 ^ k + 0)) (sym (shr_split w k))
    ∙ and_block k (w / 2 ^ k) m (w % 2 ^ k) 0 (mod_below w (2 ^ k) (pow_pos k)) (pow_pos k)
    ∙ (let z : bit_and (w % 2 ^ k) 0 ≡ 0 = and_zero_r (w % 2 ^ k) in omega (arith, z))

pow_add : (j k : ℕ) → 2 ^ (j + k) ≡ 2 ^ k * 2 ^ j
pow_add j k = omega (arith, pow-add 2 j k)

moved : (high low p g o s e : ℕ) → s ≡ g * p → e ≡ o * s → (high * o + low) * g * p ≡ low * s + high * e
moved high low p g o s e hs he =
    let a : low * s ≡ low * (g * p) = ap (λ n. low * n) hs in
    let b : high * e ≡ high * (o * (g * p)) = ap (λ n. high * n) (he ∙ ap (λ n. o * n) hs) in
    omega (arith, a, b)

-- a mask leaves of a word the bits that stand in its runs
and_runs_at : (rs : Runs) (k w : ℕ) → bit_and (w / 2 ^ k) (mask_of_runs rs) * 2 ^ k ≡ bits_of_runs rs k w
and_runs_at [] k w =
    let zero_times : 0 * 2 ^ k ≡ 0 = omega arith in
    ap (λ n. n * 2 ^ k) (and_zero_r (w / 2 ^ k)) ∙ zero_times
and_runs_at (r ∷ rs) k w =
    let start = k + r.0 in
    let gap : bit_and (w / 2 ^ k) (mask_of_runs (r ∷ rs)) ≡ bit_and (w / 2 ^ start) (mask_of_runs rs * 2 ^ r.1 + (2 ^ r.1 - 1)) * 2 ^ r.0 =
    and_gap (w / 2 ^ k) _ r.0 ∙ ap (λ n. bit_and n (mask_of_runs rs * 2 ^ r.1 + (2 ^ r.1 - 1)) * 2 ^ r.0) (shr-shr w k r.0) in
    let ones : bit_and (w / 2 ^ start) (mask_of_runs rs * 2 ^ r.1 + (2 ^ r.1 - 1)) ≡ bit_and (w / 2 ^ (start + r.1)) (mask_of_runs rs) * 2 ^ r.1 + w / 2 ^ start % 2 ^ r.1 =
    and_ones (w / 2 ^ start) (mask_of_runs rs) r.1 ∙ ap (λ n. bit_and n (mask_of_runs rs) * 2 ^ r.1 + w / 2 ^ start % 2 ^ r.1) (shr-shr w start r.1) in
    let rest : bit_and (w / 2 ^ (start + r.1)) (mask_of_runs rs) * 2 ^ (start + r.1) ≡ bits_of_runs rs (start + r.1) w = and_runs_at rs (start + r.1) w in
    let high : ℕ = bit_and (w / 2 ^ (start + r.1)) (mask_of_runs rs) in
    let low : ℕ = w / 2 ^ start % 2 ^ r.1 in
    let outer : 2 ^ start ≡ 2 ^ r.0 * 2 ^ k = pow_add k r.0 in
    let inner : 2 ^ (start + r.1) ≡ 2 ^ r.1 * 2 ^ start = pow_add start r.1 in
    ap (λ n. n * 2 ^ k) (gap ∙ ap (λ n. n * 2 ^ r.0) ones)
    ∙ moved high low (2 ^ k) (2 ^ r.0) (2 ^ r.1) (2 ^ start) (2 ^ (start + r.1)) outer inner
    ∙ ap (λ n. low * 2 ^ start + n) rest

pub and_runs : (rs : Runs) (w : ℕ) → bit_and w (mask_of_runs rs) ≡ bits_of_runs rs 0 w
and_runs rs w =
    let e : w / 2 ^ 0 ≡ w = omega arith in
    let s : bit_and w (mask_of_runs rs) ≡ bit_and w (mask_of_runs rs) * 2 ^ 0 = omega arith in
    s ∙ ap (λ n. bit_and n (mask_of_runs rs) * 2 ^ 0) (sym e) ∙ and_runs_at rs 0 w
