use Rattle.std.proofs.Common.{◌≡◌, ◌-◌, ◌≤◌, length, take}
use Rattle.rv_list.proofs.listing.first_of.Given as goal

-- the bytes so far
abbrev pub invariant-taking : goal.invariant-taking
invariant-taking l = record {
  bytes : l.bytes.items ≡ take (length l.bytes.items) l.payload;
  few : length l.bytes.items ≤ 8;
}

abbrev pub decreases-taking : goal.decreases-taking
decreases-taking l = 8 - length l.bytes.items
