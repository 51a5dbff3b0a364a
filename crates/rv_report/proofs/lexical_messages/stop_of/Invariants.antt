use Rattle.std.proofs.Common.{◌≡◌, ◌+◌, ◌<◌, ◌≤◌, length, drop, get_or}
use Rattle.rv_report.specs.LexicalMessages.{unspelled_after, unspelled}
use Rattle.rv_report.proofs.lexical_messages.stop_of.Given as goal

-- what is left decides, and is no longer than there are steps
abbrev pub invariant-bytes : goal.invariant-bytes
invariant-bytes l = record {
  whole : unspelled_after (get_or l.text 0 0) 0 (drop l.at l.text) ≡ unspelled l.text;
  behind : 1 ≤ l.at;
  steps : length l.text < length l.bytes + l.at;
}

abbrev pub decreases-bytes : goal.decreases-bytes
decreases-bytes l = length l.bytes
