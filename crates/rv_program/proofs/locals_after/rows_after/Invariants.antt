use Rattle.std.proofs.Common.{◌≡◌, ◌+◌, ◌++◌, ℕ, length}
use Rattle.rv_program.specs.Edits.{edit_of}
use Rattle.rv_program.specs.internal.Locals.{AreFrom, AreWithin, lines_with}
use Rattle.rv_program.specs.internal.MovedLocals.{row_after}
use Rattle.rv_program.proofs.locals_after.rows_after.Given as goal

-- the rows so far are of lesser numbers than those that are left, and the lines of each number are in the one or come of the others
abbrev pub invariant-numbers : goal.invariant-numbers
invariant-numbers l = record {
  next : ℕ;
  made : AreWithin 0 next l.after.items;
  put_in : AreFrom next l.put_in;
  rows : AreFrom next l.rows;
  lines : (n : ℕ) → lines_with l.after.items n ++ row_after (edit_of l.edit) (lines_with l.put_in n) (lines_with l.rows n) ≡ row_after (edit_of l.edit) (lines_with l.fn.put_in n) (lines_with l.fn.rows n);
}

abbrev pub decreases-numbers : goal.decreases-numbers
decreases-numbers l = length l.put_in + length l.rows
