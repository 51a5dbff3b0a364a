use Rattle.std.proofs.lemmas.Int.{to_z-of_z}
use Rattle.std.specs.Int.{w32}
use Rattle.rv_dis.proofs.Immediates.{decimal_immediate}
use Rattle.rv_dis.proofs.operand_texts.push_immediate.Goals as goal

pub returns-in_default : goal.returns-in_default
returns-in_default c =
    let same = to_z-of_z w32 c.args.value c.ranges.value in
    let decimal = decimal_immediate c.args.shape c.args.value c.in_default.not-Upper c.in_default.not-CUpper in
    rw decimal (rw same at c.push_decimal.ensures)
