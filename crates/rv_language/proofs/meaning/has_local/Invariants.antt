use Rattle.std.proofs.Common.{◌≡◌, length}
use Rattle.std.specs.List.{list_any}
use Rattle.rv_language.specs.Meanings.{is_local_label}
use Rattle.rv_language.proofs.meaning.has_local.Given as goal

-- the labels so far are others
abbrev pub invariant-labels : goal.invariant-labels
invariant-labels l = record {
  left : list_any (is_local_label l.number) l.labels ≡ list_any (is_local_label l.number) l.fn.labels;
}

abbrev pub decreases-labels : goal.decreases-labels
decreases-labels l = length l.labels
