use Rattle.rv_layout.specs.AdvanceLaws.{code-advanced}
use Rattle.rv_layout.proofs.advance.Advance.apply.Goals as goal

pub returns : goal.returns
returns c = code-advanced c.args.self c.args.offset c.round_up.result c.requires c.round_up.ensures
