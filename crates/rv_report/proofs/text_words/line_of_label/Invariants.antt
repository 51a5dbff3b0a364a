use Rattle.std.proofs.Common.{◌≡◌, length}
use Rattle.rv_report.specs.Words.{line_of_label}
use Rattle.rv_report.proofs.text_words.line_of_label.Given as goal

-- the words that are left have the first one
abbrev pub invariant-words : goal.invariant-words
invariant-words l = line_of_label l.name l.unknown ≡ line_of_label l.name l.fn.unknown

abbrev pub decreases-words : goal.decreases-words
decreases-words l = length l.unknown
