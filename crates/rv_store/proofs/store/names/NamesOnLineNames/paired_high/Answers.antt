use Rattle.std.proofs.Common.{ap, ◌∙◌}
use Rattle.rv_store.proofs.store.names.NamesOnLineNames.paired_high.Goals as goal

pub returns : goal.returns
returns c = c.paired_high.ensures ∙ ap (λ given. given.paired_high c.args.label.now) c.by_rows.ensures
