-- The law is a lemma.
use Rattle.rv_dis.proofs.InstructionLaw.{is_instruction}
use Rattle.rv_dis.proofs.laws.texts_are_instructions.Goals as goal

pub returns : goal.returns
returns c = is_instruction
