use Rattle.rv_store.proofs.store.Store.replace.Goals as goal

pub returns-clause-counted : goal.returns-clause-counted
returns-clause-counted g c = c.edit.ensures.counted
