-- The lines with a property around a place, where one more line is passed.
use Rattle.std.proofs.Common.{◌≡◌, ℕ, suc, ◌+◌, ◌-◌, ◌<◌, ◌≤◌, Bool, true, false, refl, ap, ◌∙◌, arith}
use Rattle.std.proofs.lemmas.Bool.Decides.{nat_tests}
use Rattle.std.proofs.lemmas.Grind.{common_steps}
use Rattle.std.specs.Prelude.{max, min, nat_le}
use Rattle.rv_language.specs.Meanings.{first_after, last_up_to}

-- it is before the place, and has the property
pub before_found : (has : ℕ → Bool) (at k : ℕ) → k < at → has (k + 1) ≡ true → last_up_to has (min at (k + 1)) ≡ k + 1
before_found has at k before is =
    let e : min at (k + 1) ≡ suc k = grind (arith, common_steps, before) in
    let next : suc k ≡ k + 1 = omega arith in
    rw (e, next, is) refl

-- it is before the place
pub behind_kept : (has : ℕ → Bool) (at k count : ℕ) → k < at → first_after has (max at (k + 1)) (count - max at (k + 1)) ≡ first_after has (max at k) (count - max at k)
behind_kept has at k count before =
    let e : max at (k + 1) ≡ max at k = grind (arith, common_steps, before) in
    ap (λ n. first_after has n (count - n)) e

-- it has the property not

before_by : (has : ℕ → Bool) (at k : ℕ) (b : Bool) → nat_le at k ≡ b → has (k + 1) ≡ false → last_up_to has (min at (k + 1)) ≡ last_up_to has (min at k)
before_by has at k true after is =
    let e : min at (k + 1) ≡ min at k = grind (arith, nat_tests, common_steps, after) in
    ap (last_up_to has) e
before_by has at k false before is =
    let lt : k < at = grind (arith, nat_tests, before) in
    let e : min at (k + 1) ≡ suc k = grind (arith, common_steps, lt) in
    let e' : min at k ≡ k = grind (arith, common_steps, lt) in
    let next : suc k ≡ k + 1 = omega arith in
    let is' : has (suc k) ≡ false = ap has next ∙ is in
    rw (e, e', is') refl

pub before_passed : (has : ℕ → Bool) (at k : ℕ) → has (k + 1) ≡ false → last_up_to has (min at (k + 1)) ≡ last_up_to has (min at k)
before_passed has at k is = before_by has at k (nat_le at k) refl is

behind_by : (has : ℕ → Bool) (at k count : ℕ) (b : Bool) → nat_le at k ≡ b → k < count → has (k + 1) ≡ false → first_after has (max at (k + 1)) (count - max at (k + 1)) ≡ first_after has (max at k) (count - max at k)
behind_by has at k count true after some is =
    let le : at ≤ k = grind (arith, nat_tests, after) in
    let e : max at (k + 1) ≡ k + 1 = grind (arith, common_steps, le) in
    let e' : max at k ≡ k = grind (arith, common_steps, le) in
    let more : count - k ≡ suc (count - (k + 1)) = omega (arith, some) in
    rw (e, e', more, is) refl
behind_by has at k count false before some is = behind_kept has at k count (grind (arith, nat_tests, before))

pub behind_passed : (has : ℕ → Bool) (at k count : ℕ) → k < count → has (k + 1) ≡ false → first_after has (max at (k + 1)) (count - max at (k + 1)) ≡ first_after has (max at k) (count - max at k)
behind_passed has at k count some is = behind_by has at k count (nat_le at k) refl some is

-- it is after the place, and has the property
pub behind_found : (has : ℕ → Bool) (at k count : ℕ) → at ≤ k → k < count → has (k + 1) ≡ true → first_after has (max at k) (count - max at k) ≡ k + 1
behind_found has at k count after some is =
    let e' : max at k ≡ k = grind (arith, common_steps, after) in
    let more : count - k ≡ suc (count - (k + 1)) = omega (arith, some) in
    rw (e', more, is) refl
