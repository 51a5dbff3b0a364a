use Rattle.std.proofs.Common.{length}
use Rattle.rv_language.proofs.other_operands.push_set.Given as goal

abbrev pub decreases-letters : goal.decreases-letters
decreases-letters l = length l.left
