-- The greatest depth of a run, found from its first token on.
use Rattle.std.proofs.Common.{◌≡◌, ℕ, ◌≤◌, List, [], ◌∷◌, max, refl, arith, ⊎_elim}
use Rattle.std.proofs.Math.Nat.{le-max_left, max-eq_left, max-eq_right, max-le}
use Rattle.std.proofs.lemmas.Bool.{cases_lt}
use Rattle.rv_expr.specs.TokenRoles.{TokenRole}
use Rattle.rv_expr.specs.Depth.{depth_after, depth_from}

-- it is not below the depth at the first token
pub depth-least : (depth : ℕ) (rs : List TokenRole) → depth ≤ depth_from depth rs
depth-least depth [] = omega arith
depth-least depth (r ∷ rs) = le-max_left depth (depth_from (depth_after depth r) rs)

-- of four numbers the greatest, grouped in two ways
greatest : (m d e x : ℕ) → d ≤ m → e ≤ x → max m (max d x) ≡ max (max m e) x
greatest m d e x dm ex =
    ⊎_elim
    (λ above.
    let mx : m ≤ x = omega arith in
    let dx : d ≤ x = omega arith in
    let both : max m e ≤ x = max-le mx ex in
    rw (max-eq_right dx, max-eq_right mx, max-eq_right both) refl)
    (λ below.
    let em : e ≤ m = omega arith in
    let both : max d x ≤ m = max-le dm below in
    rw (max-eq_left em, max-eq_left both, max-eq_left below) refl)
    (cases_lt m x)

-- the greatest depth so far, taken over the next place and those after it
pub depth_step : (deepest depth next : ℕ) (rest : List TokenRole) → depth ≤ deepest → max deepest (max depth (depth_from next rest)) ≡ max (max deepest next) (depth_from next rest)
depth_step deepest depth next rest h = greatest deepest depth next (depth_from next rest) h (depth-least next rest)
