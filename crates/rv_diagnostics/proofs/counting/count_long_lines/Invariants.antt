use Rattle.std.proofs.Common.{◌≡◌, ◌+◌, ◌-◌, ◌≤◌, take}
use Rattle.rv_diagnostics.specs.Published.{long_count}
use Rattle.rv_diagnostics.proofs.counting.count_long_lines.Given as goal

-- those so far are counted, and those that are left
abbrev pub invariant-loop-k : goal.invariant-loop-k
invariant-loop-k l = record {
  all : l.counted.all + long_count (take (16384 - l.k) l.lines) ≡ long_count (take 16384 l.fn.lines);
  before : l.counted.before + long_count (take (l.at - l.k) (take (16384 - l.k) l.lines)) ≡ long_count (take l.at (take 16384 l.fn.lines));
  within : l.counted.before ≤ l.counted.all;
  few : l.counted.all ≤ l.k;
}
