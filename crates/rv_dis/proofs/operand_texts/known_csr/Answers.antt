use Rattle.std.proofs.Common.{arith, sym}
use Rattle.rv_dis.proofs.CsrNumbers.{no_name}
use Rattle.rv_dis.proofs.operand_texts.known_csr.Goals as goal

pub returns-then-number-ge4096 : goal.returns-then-number-ge4096
returns-then-number-ge4096 c = sym (no_name c.args.number (omega arith))
