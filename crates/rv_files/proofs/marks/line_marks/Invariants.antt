use Rattle.std.proofs.Common.{◌≡◌, ◌+◌, ◌++◌, drop, map}
use Rattle.rv_show.specs.Origins.{mark_of}
use Rattle.rv_files.specs.LineMarks.{marks_from}
use Rattle.rv_files.proofs.marks.line_marks.Given as goal

-- the marks so far, and those on the lines that are left
abbrev pub invariant-loop-k : goal.invariant-loop-k
invariant-loop-k l = map mark_of l.marks.items ++ marks_from (l.k + 1) (drop l.k l.store.lines) ≡ marks_from 1 l.store.lines
