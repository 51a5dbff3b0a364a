use Rattle.std.proofs.Common.{ap, ◌∙◌}
use Rattle.rv_store.proofs.store.names.NamesOnLineNames.symbol.Goals as goal

pub returns : goal.returns
returns c = c.symbol.ensures ∙ ap (λ given. given.symbol c.args.name.now) c.by_rows.ensures
