use Rattle.std.proofs.Common.{◌≡◌, ◌+◌, ◌≤◌, length}
use Rattle.rv_files.specs.Loading.{refusal_from, load_refusal}
use Rattle.rv_files.proofs.limits.check_limits.Given as goal

-- no line so far is past a limit
abbrev pub invariant-lines : goal.invariant-lines
invariant-lines l = record {
  left : refusal_from (l.number + 1) l.lines ≡ load_refusal l.file;
  few : l.number ≤ 16384;
}

abbrev pub decreases-lines : goal.decreases-lines
decreases-lines l = length l.lines
