use Rattle.std.proofs.Common.{length}
use Rattle.rv_manual.proofs.operands.slot_words.Given as goal

abbrev pub decreases-slots : goal.decreases-slots
decreases-slots l = length l.slots
