use Rattle.rv_ops.specs.TableLaws.{fixed_of-mask}
use Rattle.rv_ops.proofs.laws.fixed_bits_are_in_the_mask.Goals as goal

pub returns : goal.returns
returns c = fixed_of-mask
