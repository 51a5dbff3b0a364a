use Rattle.std.proofs.Common.{arith}
use Rattle.std.proofs.lemmas.Grind.{common_steps}
use Rattle.rv_list.specs.Image.{section_row}
use Rattle.rv_list.proofs.image.push_section_row.Goals as goal

pub returns : goal.returns
unfolding section_row
returns g c = grind (arith, common_steps)
