use Rattle.std.proofs.Common.{◌≡◌, ◌+◌, ◌≤◌, ◌++◌, length}
use Rattle.rv_text.specs.Rows.{hex}
use Rattle.rv_dis.proofs.numbers.push_last_digits.Given as goal

-- the digits so far, and then those that are left, are all
abbrev pub invariant-loop-left : goal.invariant-loop-left
invariant-loop-left l = record {
  few : l.left ≤ 8;
  room : length l.out + l.left ≤ 40;
  text : l.out ++ hex l.left l.n ≡ l.initial.out ++ hex l.count l.n;
}

abbrev pub decreases-loop-left : goal.decreases-loop-left
decreases-loop-left l = l.left
