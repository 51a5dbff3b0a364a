use Rattle.std.proofs.Common.{length}
use Rattle.rv_language.proofs.rewrites.push_rewritten.Given as goal

abbrev pub decreases-bytes : goal.decreases-bytes
decreases-bytes l = length l.form
