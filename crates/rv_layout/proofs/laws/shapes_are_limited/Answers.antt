use Rattle.rv_layout.specs.ShapeLaws.{limited}
use Rattle.rv_layout.proofs.laws.shapes_are_limited.Goals as goal

pub returns : goal.returns
returns c = limited
