use Rattle.rv_layout.specs.ShapeLaws.{at_most_one, among_operands}
use Rattle.rv_layout.proofs.laws.size_operands_are_few.Goals as goal

pub returns : goal.returns
returns c = record { one = at_most_one; operand = among_operands }
