use Rattle.std.proofs.Common.{◌≡◌, ◌*◌, ◌/◌, ◌%◌, ◌^◌, ◌≤◌, sym, ap, arith}
use Rattle.std.proofs.Math.Nat.{div-eq_of_lt}
use Rattle.std.proofs.Math.Pow.{pow_mono}
use Rattle.rv_text.proofs.rows.nibble.Goals as goal

pub returns-else-place-lt8-clause-digit : goal.returns-else-place-lt8-clause-digit
returns-else-place-lt8-clause-digit c =
    let far : 2 ^ 32 ≤ 2 ^ (4 * c.args.place) = pow_mono {i = 32} (omega (arith, c.if-place-lt8.false)) in
    let gone : c.args.n / 2 ^ (4 * c.args.place) ≡ 0 = div-eq_of_lt (omega (arith, far, c.ranges.n.fits)) in
    ap (λ m. m % 16) (sym gone)
