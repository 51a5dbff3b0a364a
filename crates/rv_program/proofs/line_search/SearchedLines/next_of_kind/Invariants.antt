use Rattle.std.proofs.Common.{◌≤◌, ◌-◌, length}
use Rattle.rv_program.specs.internal.LinesWithout.{is_of_kind, AreWithout}
use Rattle.rv_program.specs.Program.{program_of}
use Rattle.rv_program.proofs.line_search.SearchedLines.next_of_kind.Given as goal

-- none of the lines so far is of the kind
abbrev pub invariant-loop-at : goal.invariant-loop-at
invariant-loop-at l = record {
  up : l.i ≤ l.at;
  within : l.at ≤ length l.self;
  passed : AreWithout (is_of_kind l.kind) (program_of l.self) l.i l.at;
}

abbrev pub decreases-loop-at : goal.decreases-loop-at
decreases-loop-at l = length l.self - l.at
