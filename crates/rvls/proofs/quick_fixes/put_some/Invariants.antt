use Rattle.std.proofs.Common.{length}
use Rattle.rvls.proofs.quick_fixes.put_some.Given as goal

abbrev pub decreases-fixes : goal.decreases-fixes
decreases-fixes l = length l.fixes
