use Rattle.rv_dis.proofs.Showing.{instruction_shown, half_shown}
use Rattle.rv_dis.proofs.disassembly.set_first.Goals as goal

pub returns-in-Some : goal.returns-in-Some
returns-in-Some c = instruction_shown c.set_instruction.new.row c.args.row.now.address _ _ c.args.bytes.now c.in-Some.ensures.found c.set_instruction.ensures

pub returns-in-None : goal.returns-in-None
returns-in-None c = half_shown c.set_half.new.row c.args.row.now.address c.from_le_bytes.result c.args.bytes.now c.requires.bytes c.in-None.ensures.none c.from_le_bytes.ensures c.set_half.ensures
