use Rattle.std.proofs.Common.{length}
use Rattle.rv_language.proofs.other_names.add_near.Given as goal

abbrev pub decreases-names : goal.decreases-names
decreases-names l = length l.left
