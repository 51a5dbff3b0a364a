use Rattle.std.proofs.Common.{◌≡◌, ◌+◌, ◌++◌, ◌≤◌, length, map, Some}
use Rattle.std.specs.List.{flat_map}
use Rattle.rv_list.specs.Faults.{found}
use Rattle.rv_files.specs.OddAddresses.{own_report}
use Rattle.rv_files.proofs.odd_addresses.push_reported.Given as goal

-- those so far, and those of the faults that are left
abbrev pub invariant-faults : goal.invariant-faults
invariant-faults l = record {
  whole : l.reported.items ++ map Some (flat_map (own_report l.lines l.number l.section) (found l.faults))
      ≡ l.fn.reported.items ++ map Some (flat_map (own_report l.lines l.number l.section) (found l.fn.faults));
  few : length l.reported.items + length l.faults ≤ length l.fn.reported.items + length l.fn.faults;
}

abbrev pub decreases-faults : goal.decreases-faults
decreases-faults l = length l.faults
