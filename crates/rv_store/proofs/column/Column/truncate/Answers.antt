use Rattle.std.proofs.Common.{sym, subst}
use Rattle.rv_program.specs.internal.FirstUses.{AreFirstUses}
use Rattle.rv_program.specs.lemmas.FirstUseLaws.{uses-taken}
use Rattle.rv_store.proofs.column.Column.truncate.Goals as goal

pub invariant_of-self : goal.invariant_of-self
invariant_of-self c = subst (λ ls. AreFirstUses ls c.self.inside.uses) (sym c.truncate.ensures.items) (uses-taken c.self.inside.lines.items c.self.inside.uses c.self.invariant c.args.count)
