use Rattle.rv_layout.specs.AdvanceLaws.{code-finer, code-coarser}
use Rattle.rv_layout.proofs.advance.Advance.then.Goals as goal

pub returns-then-next-self : goal.returns-then-next-self
returns-then-next-self c =
    code-finer c.args.self c.args.next c.round_up.result c.requires.first c.requires.second c.if-next-self.true c.round_up.ensures

pub returns-else-next-self : goal.returns-else-next-self
returns-else-next-self c =
    code-coarser c.args.self c.args.next c.round_up-else-next-self.result c.requires.first c.requires.second c.if-next-self.false c.round_up-else-next-self.ensures
