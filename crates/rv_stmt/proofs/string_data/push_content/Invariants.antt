use Rattle.std.proofs.Common.{◌≡◌, ◌++◌, ◌-◌, length}
use Rattle.rv_text.specs.Strings.{content_from, string_content}
use Rattle.rv_stmt.proofs.string_data.push_content.Given as goal

abbrev pub invariant-loop-byte : goal.invariant-loop-byte
invariant-loop-byte l = l.bytes ++ content_from l.text l.place ≡ l.initial.bytes ++ string_content l.text

abbrev pub decreases-loop-byte : goal.decreases-loop-byte
decreases-loop-byte l = length l.text - l.place
