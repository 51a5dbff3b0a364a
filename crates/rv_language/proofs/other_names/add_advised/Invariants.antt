use Rattle.std.proofs.Common.{length}
use Rattle.rv_language.proofs.other_names.add_advised.Given as goal

abbrev pub decreases-topics : goal.decreases-topics
decreases-topics l = length l.topics
