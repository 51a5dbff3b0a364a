use Rattle.std.proofs.Common.{◌≡◌, ◌+◌, ◌≤◌, length}
use Rattle.rv_files.specs.OddAddresses.{odd_run}
use Rattle.rv_files.proofs.odd_addresses.odd_run.Given as goal

-- those so far, and those of the lines that are left
abbrev pub invariant-lines : goal.invariant-lines
invariant-lines l = record {
  whole : l.count + odd_run l.section l.lines ≡ odd_run l.section l.fn.lines;
  few : l.count + length l.lines ≤ length l.fn.lines;
}

abbrev pub decreases-lines : goal.decreases-lines
decreases-lines l = length l.lines
