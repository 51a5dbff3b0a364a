use Rattle.rv_store.proofs.store.Store.insert.Goals as goal

pub returns-clause-changed : goal.returns-clause-changed
returns-clause-changed g c = c.edit.ensures.changed
