use Rattle.std.proofs.Common.{◌≡◌, ◌++◌, length}
use Rattle.rv_program.specs.Edits.{edit_of}
use Rattle.rv_program.specs.internal.MovedLocals.{lines_moved}
use Rattle.rv_program.proofs.locals_after.push_moved.Given as goal

-- those so far, and those of the lines that are left
abbrev pub invariant-lines : goal.invariant-lines
invariant-lines l = l.row ++ lines_moved (edit_of l.edit) l.lines ≡ l.fn.row ++ lines_moved (edit_of l.edit) l.fn.lines

abbrev pub decreases-lines : goal.decreases-lines
decreases-lines l = length l.lines
