use Rattle.std.proofs.Common.{length}
use Rattle.rv_language.proofs.other_signs.add_comment.Given as goal

abbrev pub decreases-tokens : goal.decreases-tokens
decreases-tokens l = length l.left
