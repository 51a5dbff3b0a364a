use Rattle.std.proofs.Common.{◌≡◌, ◌-◌, ◌≤◌, length, take}
use Rattle.rv_doc.proofs.shared.shared_front.Given as goal

abbrev pub invariant-bytes : goal.invariant-bytes
invariant-bytes l = record {
  same : take l.at l.a ≡ take l.at l.b;
  first : l.most ≤ length l.a;
  second : l.most ≤ length l.b;
  within : l.at ≤ l.most;
}

abbrev pub decreases-bytes : goal.decreases-bytes
decreases-bytes l = l.most - l.at
