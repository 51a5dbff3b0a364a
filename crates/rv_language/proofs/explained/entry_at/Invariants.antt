use Rattle.std.proofs.Common.{length}
use Rattle.rv_language.proofs.explained.entry_at.Given as goal

abbrev pub decreases-tokens : goal.decreases-tokens
decreases-tokens g l = length l.left
