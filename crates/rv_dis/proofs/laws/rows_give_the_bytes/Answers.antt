use Rattle.rv_dis.proofs.DataLine.{half_assembles, byte_assembles}
use Rattle.rv_dis.proofs.InstructionLaw.{instruction_assembles}
use Rattle.rv_dis.proofs.RoundTrip.{give}
use Rattle.rv_dis.proofs.laws.rows_give_the_bytes.Goals as goal

pub returns : goal.returns
returns c = give instruction_assembles half_assembles byte_assembles
