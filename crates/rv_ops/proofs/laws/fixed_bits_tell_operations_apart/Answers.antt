use Rattle.rv_ops.specs.TableLaws.{overlapping}
use Rattle.rv_ops.proofs.laws.fixed_bits_tell_operations_apart.Goals as goal

pub returns : goal.returns
returns c = overlapping
