use Rattle.std.proofs.Common.{◌≡◌, ◌+◌, length}
use Rattle.rv_program.specs.Definitions.{place_among_labels}
use Rattle.rv_program.proofs.first_definition.place_among_labels.Given as goal

-- the name is none of the labels so far
abbrev pub invariant-labels : goal.invariant-labels
invariant-labels l = record {
  place : place_among_labels l.line l.index l.labels l.name ≡ place_among_labels l.line 0 l.fn.labels l.name;
  count : l.index + length l.labels ≡ length l.fn.labels;
}

abbrev pub decreases-labels : goal.decreases-labels
decreases-labels l = length l.labels
