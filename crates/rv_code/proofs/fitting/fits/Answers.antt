use Rattle.std.proofs.Common.{rules}
use Rattle.rv_code.proofs.fitting.fits.Goals as goal

pub returns : goal.returns
returns c = (
  λ t. record { rd = search rules; rs1 = search rules; rs2 = search rules; value = search rules },
  λ h. search rules,
)
