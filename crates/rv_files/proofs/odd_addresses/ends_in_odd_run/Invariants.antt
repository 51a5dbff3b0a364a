use Rattle.std.proofs.Common.{◌≡◌, ◌≤◌, length, reverse, take}
use Rattle.rv_files.specs.OddAddresses.{odd_run}
use Rattle.rv_files.proofs.odd_addresses.ends_in_odd_run.Given as goal

-- the lines behind the first `left` ones tell nothing
abbrev pub invariant-left : goal.invariant-left
invariant-left l = record {
  same : odd_run l.section (reverse (take l.left l.lines)) ≡ odd_run l.section (reverse l.lines);
  within : l.left ≤ length l.lines;
}

abbrev pub decreases-left : goal.decreases-left
decreases-left l = l.left
