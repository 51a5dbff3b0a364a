use Rattle.std.proofs.Common.{ap, ◌∙◌}
use Rattle.rv_store.proofs.store.names.NamesOnLineNames.local.Goals as goal

pub returns : goal.returns
returns c = c.local.ensures ∙ ap (λ given. given.local c.args.number c.args.direction) c.by_rows.ensures
