use Rattle.std.proofs.Common.{◌≡◌, ◌+◌, ◌≤◌, ◌++◌, length}
use Rattle.rv_text.specs.Rows.{hex}
use Rattle.rv_text.proofs.rows.OutputRow.push_hex.Given as goal

-- the digits so far, and then those that are left, are all
abbrev pub invariant-loop-left : goal.invariant-loop-left
invariant-loop-left l = record {
  room : length l.self + l.left ≤ 64;
  length : length l.self + l.left ≡ length l.initial.self + l.digits;
  text : l.self ++ hex l.left l.n ≡ l.initial.self ++ hex l.digits l.n;
}

abbrev pub decreases-loop-left : goal.decreases-loop-left
decreases-loop-left l = l.left
