use Rattle.std.proofs.Common.{length}
use Rattle.rv_language.proofs.other_names.first_undefined.Given as goal

abbrev pub decreases-tokens : goal.decreases-tokens
decreases-tokens g l = length l.left
