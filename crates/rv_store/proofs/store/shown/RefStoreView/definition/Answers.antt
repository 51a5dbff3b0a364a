use Rattle.std.proofs.Common.{ap, ◌∙◌}
use Rattle.rv_store.proofs.store.shown.RefStoreView.definition.Goals as goal

pub returns : goal.returns
returns c =
    let row = rw c.deref.ensures.value at c.entry_of.ensures in
    rw (← c.self.view_is) (row ∙ ap (λ f. f c.args.name.now) c.self.invariant.surveyed.definitions.each)
