use Rattle.std.proofs.Common.{length}
use Rattle.rv_language.proofs.semantic_tokens.put_line.Given as goal

abbrev pub decreases-tokens : goal.decreases-tokens
decreases-tokens g l = length l.left
