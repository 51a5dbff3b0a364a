use Rattle.std.proofs.Common.{length}
use Rattle.rv_language.proofs.completion.put_symbols.Given as goal

abbrev pub decreases-symbols : goal.decreases-symbols
decreases-symbols g l = length l.left
