use Rattle.std.proofs.Common.{length}
use Rattle.examples.proofs.statement_text.push_labels.Given as goal

abbrev pub decreases-loop-label : goal.decreases-loop-label
decreases-loop-label l = length l.labels
