use Rattle.std.proofs.Common.{◌<◌, subst, arith}
use Rattle.std.proofs.lemmas.Int.{ints}
use Rattle.rv_code.proofs.FittingFields.{immediate_fields-fit, immediate_fields-only}
use Rattle.rv_code.proofs.instruction.Ins.of_value.Goals as goal

pub returns-in-Ok-clause-fits : goal.returns-in-Ok-clause-fits
returns-in-Ok-clause-fits c = (
  λ some.
      let h = immediate_fields-only _ _ _ _ c.requires (c.try_new.ensures.fits.0 some) in
      (omega (arith, ints, h.low, c.in-Ok.ensures), omega (arith, ints, h.high, c.in-Ok.ensures)),
  λ range.
      c.try_new.ensures.fits.1 (immediate_fields-fit _ _ _ _ c.requires
      (subst (λ n. n < 32) c.number.ensures.value c.number.ensures.below)
      (subst (λ n. n < 32) c.number-2.ensures.value c.number-2.ensures.below)
      (record { low = omega (arith, ints, range.0, c.in-Ok.ensures); high = omega (arith, ints, range.1, c.in-Ok.ensures) })),
)
