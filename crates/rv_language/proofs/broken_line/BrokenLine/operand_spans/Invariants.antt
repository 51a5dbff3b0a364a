use Rattle.std.proofs.Common.{length}
use Rattle.rv_language.proofs.broken_line.BrokenLine.operand_spans.Given as goal

abbrev pub decreases-tokens : goal.decreases-tokens
decreases-tokens l = length l.left
