use Rattle.std.proofs.Common.{refl}
use Rattle.rv_code.proofs.instruction.Ins.new.Goals as goal

pub returns : goal.returns
returns c = refl
