use Rattle.std.proofs.Common.{◌≡◌, length, take}
use Rattle.rv_changes.proofs.limits.cut_lines.Given as goal

abbrev pub invariant-lines : goal.invariant-lines
invariant-lines l = record {
  base : l.store.base ≡ l.fn.store.base;
  lines : take l.most l.store.lines ≡ take l.most l.fn.store.lines;
}

abbrev pub decreases-lines : goal.decreases-lines
decreases-lines l = length l.store.lines
