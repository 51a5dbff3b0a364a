use Rattle.std.proofs.Common.{◌≡◌, ◌++◌, length}
use Rattle.rv_program.specs.internal.Locals.{lines_below}
use Rattle.rv_program.proofs.locals_after.push_below.Given as goal

-- those so far, and those of the lines that are left
abbrev pub invariant-lines : goal.invariant-lines
invariant-lines l = l.row ++ lines_below l.place l.lines ≡ l.fn.row ++ lines_below l.place l.fn.lines

abbrev pub decreases-lines : goal.decreases-lines
decreases-lines l = length l.lines
