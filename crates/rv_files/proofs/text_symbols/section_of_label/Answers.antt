use Rattle.std.proofs.Common.{arith}
use Rattle.rv_files.proofs.text_symbols.section_of_label.Goals as goal

pub returns : goal.returns
returns c = omega (arith, c.section_number.ensures.value)
