use Rattle.rv_manual.proofs.FormatFacts.{are_fixed}
use Rattle.rv_manual.proofs.fields.formats_have_the_fixed_bits.Goals as goal

pub returns : goal.returns
returns c = are_fixed
