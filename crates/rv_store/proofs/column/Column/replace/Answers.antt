use Rattle.std.proofs.Common.{set, sym, subst}
use Rattle.rv_program.specs.internal.FirstUses.{AreFirstUses}
use Rattle.rv_store.proofs.column.Column.replace.Goals as goal

pub invariant_of-self : goal.invariant_of-self
invariant_of-self c =
    let lines = c.self.inside.lines.items in
    subst (λ l. AreFirstUses (set lines c.args.place l) c.replace.new.self) (sym c.replace-2.ensures.after) (c.replace.ensures lines c.args.line c.brief.ensures c.self.invariant)
