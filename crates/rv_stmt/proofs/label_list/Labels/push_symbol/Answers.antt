use Rattle.std.proofs.Common.{[], ◌∷◌, ◌++◌, ap, ◌∙◌}
use Rattle.rv_stmt.specs.LabelNames.{Symbol}
use Rattle.rv_stmt.proofs.EntryLemmas.{labels_of-symbol, names_length-symbol}
use Rattle.rv_stmt.proofs.label_list.Labels.push_symbol.Goals as goal

pub invariant_of-self-2 : goal.invariant_of-self-2
invariant_of-self-2 c =
    rw
    (c.push_reserved.ensures.items, c.in_ok-reserve.ensures.items, c.in_ok-extend_from_slice.ensures.items)
    (names_length-symbol c.self.inside.names.items c.self.inside.entries.items c.self.invariant c.args.span c.args.name.now c.in-Ok.length c.in-Ok.ensures.1)

pub returns-clause-pushed : goal.returns-clause-pushed
returns-clause-pushed c =
    rw
    (c.push_reserved.ensures.items, c.in_ok-reserve.ensures.items, c.in_ok-extend_from_slice.ensures.items)
    (labels_of-symbol c.self.inside.names.items c.self.inside.entries.items c.self.invariant c.args.span c.args.name.now c.in-Ok.length c.in-Ok.ensures.1
    ∙ ap (λ ls. ls ++ record { name = Symbol c.args.name.now; span = c.args.span } ∷ []) c.self.view_is)
