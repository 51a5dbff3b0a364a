use Rattle.std.proofs.Common.{length}
use Rattle.rv_language.proofs.completion.put_csrs.Given as goal

abbrev pub decreases-rows : goal.decreases-rows
decreases-rows l = length l.rows
