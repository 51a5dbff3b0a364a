use Rattle.std.proofs.Common.{◌≡◌, ◌-◌, ◌≤◌, ◌++◌, length}
use Rattle.rv_files.proofs.segment_bytes.BytesLeft.next_row.Given as goal

-- the row and what is left are what there was
abbrev pub invariant-filling : goal.invariant-filling
invariant-filling l = record {
  whole : l.row.items ++ l.self ≡ l.fn.self;
  few : length l.row.items ≤ 16;
}

abbrev pub decreases-filling : goal.decreases-filling
decreases-filling l = 16 - length l.row.items
