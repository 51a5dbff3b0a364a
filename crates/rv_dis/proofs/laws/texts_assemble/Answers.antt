-- What the law says of every meaning of names, where nothing is defined.
use Rattle.rv_dis.proofs.InstructionLaw.{is_instruction, text_assembles}
use Rattle.rv_dis.proofs.laws.texts_assemble.Goals as goal

pub returns-clause-nameless : goal.returns-clause-nameless
returns-clause-nameless c = λ a o f small fits. (is_instruction a o f small fits).nameless

pub returns-clause-code : goal.returns-clause-code
returns-clause-code c = text_assembles
