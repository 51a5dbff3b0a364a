use Rattle.std.proofs.Common.{◌≡◌, ◌+◌, ◌≤◌, length}
use Rattle.rv_show.specs.Rows.{text_end}
use Rattle.rv_show.proofs.rows.text_end.Given as goal

-- what is done so far and what is left are the whole
abbrev pub invariant-bytes : goal.invariant-bytes
invariant-bytes l = record {
  whole : text_end l.at l.end l.bytes ≡ text_end 0 0 l.line;
  within : l.end ≤ l.at;
  count : l.at + length l.bytes ≡ length l.line;
}

abbrev pub decreases-bytes : goal.decreases-bytes
decreases-bytes l = length l.bytes
