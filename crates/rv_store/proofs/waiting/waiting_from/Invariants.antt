use Rattle.std.proofs.Common.{◌≡◌, ◌==◌, ◌<◌, ◌≤◌, ℕ, true, false, length}
use Rattle.rv_layout.specs.Sections.{section_number}
use Rattle.rv_program.specs.Layout.{section_at}
use Rattle.rv_program.specs.Pairs.{has_bytes_in}
use Rattle.rv_program.specs.Program.{program_of, statement_at}
use Rattle.rv_store.specs.internal.Waiting.{IsUnused}
use Rattle.rv_store.proofs.waiting.waiting_from.Given as goal

-- the lines that were gone past wait, if they are in the section, and no line uses a label of one of them
abbrev pub invariant-lines : goal.invariant-lines
invariant-lines l = record {
  within : l.i ≤ length l.survey.lines.items;
  none : (j : ℕ) → l.i < j → j ≤ length l.survey.lines.items → has_bytes_in (program_of l.survey.lines.items) l.section j ≡ false;
  unused : (j : ℕ) → l.i < j → j ≤ length l.survey.lines.items → (section_number (section_at (program_of l.survey.lines.items) j) == l.section) ≡ true → IsUnused l.uses (length l.survey.lines.items) (statement_at (program_of l.survey.lines.items) j);
}

abbrev pub decreases-lines : goal.decreases-lines
decreases-lines l = l.i
