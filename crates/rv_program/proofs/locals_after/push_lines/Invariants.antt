use Rattle.std.proofs.Common.{◌≡◌, ◌++◌, length}
use Rattle.rv_program.proofs.locals_after.push_lines.Given as goal

-- those so far, and those that are left
abbrev pub invariant-lines : goal.invariant-lines
invariant-lines l = l.row ++ l.lines ≡ l.fn.row ++ l.fn.lines

abbrev pub decreases-lines : goal.decreases-lines
decreases-lines l = length l.lines
