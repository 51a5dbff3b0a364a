use Rattle.std.proofs.Common.{length}
use Rattle.rv_language.proofs.other_lexemes.without_zeros.Given as goal

abbrev pub decreases-digits : goal.decreases-digits
decreases-digits l = length l.digits
