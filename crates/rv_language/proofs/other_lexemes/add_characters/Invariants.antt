use Rattle.std.proofs.Common.{length}
use Rattle.rv_language.proofs.other_lexemes.add_characters.Given as goal

abbrev pub decreases-characters : goal.decreases-characters
decreases-characters l = length l.rest
