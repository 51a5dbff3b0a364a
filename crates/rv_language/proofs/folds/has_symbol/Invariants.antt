use Rattle.std.proofs.Common.{length}
use Rattle.rv_language.proofs.folds.has_symbol.Given as goal

abbrev pub decreases-labels : goal.decreases-labels
decreases-labels l = length l.labels
