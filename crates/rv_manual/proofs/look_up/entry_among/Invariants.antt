use Rattle.std.proofs.Common.{length}
use Rattle.rv_manual.proofs.look_up.entry_among.Given as goal

abbrev pub decreases-subjects : goal.decreases-subjects
decreases-subjects l = length l.subjects
