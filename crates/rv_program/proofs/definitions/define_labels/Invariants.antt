use Rattle.std.proofs.Common.{◌≡◌, ◌+◌, length}
use Rattle.rv_list.specs.declared.view.DefinitionPlace.TheVariants.{Nowhere}
use Rattle.rv_program.specs.internal.Defining.{also_on, AreLabelsNumbered}
use Rattle.rv_program.specs.Definitions.{place_among_labels}
use Rattle.rv_program.specs.internal.Rows.{in_row}
use Rattle.rv_program.proofs.definitions.define_labels.Given as goal

-- what is written, with what the labels that are left define, is what all of them define
abbrev pub invariant-loop-label : goal.invariant-loop-label
invariant-loop-label l = record {
  each : also_on l.line (in_row l.names l.row.items Nowhere) (place_among_labels l.line l.index l.labels)
      ≡ also_on l.line (in_row l.names l.initial.row.items Nowhere) (place_among_labels l.line 0 l.initial.labels);
  as_many : length l.row.items ≡ length l.names;
  numbered : AreLabelsNumbered l.names l.labels;
  count : l.index + length l.labels ≡ length l.initial.labels;
}

abbrev pub decreases-loop-label : goal.decreases-loop-label
decreases-loop-label l = length l.labels
