use Rattle.std.proofs.Common.{length, ap, sym, subst, ◌∙◌}
use Rattle.rv_program.specs.internal.FirstUses.{AreFirstUses}
use Rattle.rv_store.proofs.column.Column.remove.Goals as goal

pub invariant_of-self : goal.invariant_of-self
invariant_of-self c =
    subst (λ ls. AreFirstUses ls c.remove.new.self) (sym c.remove-2.ensures.items)
    (c.remove.ensures c.self.inside.lines.items (ap (λ v. length v.items) c.self.view_is ∙ sym c.len-count.ensures) c.self.invariant)
