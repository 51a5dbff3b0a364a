use Rattle.rv_fix.proofs.Sizes.{length_of_instruction}
use Rattle.rv_fix.proofs.laws.faults_keep_sizes.Goals as goal

pub returns-clause-instructions : goal.returns-clause-instructions
returns-clause-instructions c = λ i es h. length_of_instruction i es (λ f g. c.values_keep_sizes.ensures i f g h) h
