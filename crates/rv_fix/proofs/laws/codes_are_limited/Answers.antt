use Rattle.rv_fix.proofs.Limited.{code_small}
use Rattle.rv_fix.proofs.Paddings.{length_paddings}
use Rattle.rv_fix.proofs.laws.codes_are_limited.Goals as goal

pub returns : goal.returns
returns c = record { code = code_small; padding = length_paddings }
