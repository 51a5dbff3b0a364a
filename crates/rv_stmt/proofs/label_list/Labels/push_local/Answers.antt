use Rattle.std.proofs.Common.{[], ◌∷◌, ◌++◌, ap, ◌∙◌}
use Rattle.rv_stmt.specs.LabelNames.{Local}
use Rattle.rv_stmt.proofs.EntryLemmas.{labels_of-local, names_length-local}
use Rattle.rv_stmt.proofs.label_list.Labels.push_local.Goals as goal

pub invariant_of-self-2 : goal.invariant_of-self-2
invariant_of-self-2 c =
    rw c.in_ok-push.ensures.items (names_length-local c.self.inside.names.items c.self.inside.entries.items c.self.invariant c.args.span c.args.number)

pub returns-clause-pushed : goal.returns-clause-pushed
returns-clause-pushed c =
    rw
    c.in_ok-push.ensures.items
    (labels_of-local c.self.inside.names.items c.self.inside.entries.items c.self.invariant c.args.span c.args.number
    ∙ ap (λ ls. ls ++ record { name = Local c.args.number; span = c.args.span } ∷ []) c.self.view_is)
