use Rattle.std.proofs.Common.{length}
use Rattle.rv_language.proofs.other_names.add_words.Given as goal

abbrev pub decreases-words : goal.decreases-words
decreases-words l = length l.words
