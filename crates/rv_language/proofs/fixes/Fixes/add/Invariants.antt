use Rattle.std.proofs.Common.{length}
use Rattle.rv_language.proofs.fixes.Fixes.add.Given as goal

abbrev pub decreases-parts : goal.decreases-parts
decreases-parts l = length l.parts
