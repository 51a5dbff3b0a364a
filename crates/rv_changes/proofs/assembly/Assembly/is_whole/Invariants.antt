use Rattle.std.proofs.Common.{length}
use Rattle.rv_changes.proofs.assembly.Assembly.is_whole.Given as goal

abbrev pub decreases-lines : goal.decreases-lines
decreases-lines l = length l.lines
