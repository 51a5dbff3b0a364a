use Rattle.rv_program.proofs.ConstantValues.{constants-are_values, size_operands-are_values}
use Rattle.rv_program.proofs.laws.constants_are_values.Goals as goal

pub returns : goal.returns
returns c = record { names = constants-are_values; operands = size_operands-are_values }
