use Rattle.std.proofs.Common.{◌≡◌, ◌≤◌, length}
use Rattle.rv_files.specs.LineMarks.{behind}
use Rattle.rv_files.proofs.marks.behind.Given as goal

-- what stands behind the part stands behind what is left of it
abbrev pub invariant-bytes : goal.invariant-bytes
invariant-bytes l = record {
  whole : behind l.part l.bytes ≡ behind l.part l.fn.bytes;
  within : length l.bytes ≤ length l.fn.bytes;
}

abbrev pub decreases-bytes : goal.decreases-bytes
decreases-bytes l = length l.bytes
