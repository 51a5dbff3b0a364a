use Rattle.std.proofs.Common.{◌≡◌, subst, of_z, to_z, w64}
use Rattle.std.specs.Option.{IfSome}
use Rattle.std.specs.Prelude.{IsSome, ◌↔◌, ◌≤ℤ◌, pos, negsuc}
use Rattle.std.proofs.lemmas.Int.{to_z-of_z}
use Rattle.rv_code.specs.Encoding.{immediate_fields}
use Rattle.rv_code.proofs.FittingFields.{chosen, is_immediate-true, true-is_immediate}
use Rattle.rv_code.proofs.instruction.Ins.immediate.Goals as goal

pub returns-clause-value : goal.returns-clause-value
returns-clause-value c =
    let v = c.args.value in
    let same : to_z w64 (of_z w64 v) ≡ v = to_z-of_z w64 v c.ranges.value in
    let fits = subst (λ z. IsSome c.of_value.result ↔ ((negsuc 2047 ≤ℤ z) × (z ≤ℤ pos 2047))) same c.of_value.ensures.fits in
    let value = subst (λ z. IfSome c.of_value.result (λ i. i ≡ (c.args.op, immediate_fields c.args.rd c.args.rs1 z))) same c.of_value.ensures.value in
    chosen c.of_value.result _ _ (λ some. true-is_immediate v (fits.0 some)) (λ e. fits.1 (is_immediate-true v e)) value
