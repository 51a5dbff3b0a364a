use Rattle.std.proofs.Common.{◌≡◌, ◌≤◌, ◌-◌, length}
use Rattle.rv_program.specs.internal.Before.{base_before, lines_before, edit_on}
use Rattle.rv_program.specs.Changes.{is_due}
use Rattle.rv_program.specs.internal.Compared.{AreCompared}
use Rattle.rv_program.specs.Counted.{counts_of}
use Rattle.rv_program.specs.Program.{lines_that}
use Rattle.rv_program.specs.internal.Revisions.{edited_before}
use Rattle.rv_program.proofs.due.due_lines.Given as goal

-- the row holds those of the lines so far
abbrev pub invariant-lines : goal.invariant-lines
invariant-lines g l = record {
  within : l.i ≤ length l.searched;
  row : l.row.items ≡ lines_that (is_due (base_before l.before) (lines_before l.before) (edit_on l.before)) l.i;
  compared : AreCompared (edited_before l.before) l.i (counts_of g.C.Count.parsed_count g.C.Count.valued_count g.C.Count.encoded_count l.initial.counter) (counts_of g.C.Count.parsed_count g.C.Count.valued_count g.C.Count.encoded_count l.counter);
}

abbrev pub decreases-lines : goal.decreases-lines
decreases-lines g l = length l.searched - l.i
