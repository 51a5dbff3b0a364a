use Rattle.std.proofs.Common.{◌≡◌, ◌-◌, ◌≤◌, length, drop}
use Rattle.rv_doc.proofs.shared.shared_back.Given as goal

abbrev pub invariant-bytes : goal.invariant-bytes
invariant-bytes l = record {
  same : drop (length l.a - l.at) l.a ≡ drop (length l.b - l.at) l.b;
  first : l.most ≤ length l.a;
  second : l.most ≤ length l.b;
  within : l.at ≤ l.most;
}

abbrev pub decreases-bytes : goal.decreases-bytes
decreases-bytes l = l.most - l.at
