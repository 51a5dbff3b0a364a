use Rattle.std.proofs.Common.{◌≡◌, ℕ, length}
use Rattle.rv_program.specs.internal.Locals.{lines_with, with_last, lines_below}
use Rattle.rv_program.specs.References.{among_local}
use Rattle.rv_program.proofs.locals.Locals.put_line.Given as goal

-- with the labels that are left each row has the line if one of all labels is of its number
abbrev pub invariant-labels : goal.invariant-labels
invariant-labels l = record {
  last : (number : ℕ) → with_last l.line (among_local number l.labels) (lines_with l.self number) ≡ with_last l.line (among_local number l.initial.labels) (lines_with l.initial.self number);
  below : (number : ℕ) → lines_below l.line (lines_with l.self number) ≡ lines_below l.line (lines_with l.initial.self number);
}

abbrev pub decreases-labels : goal.decreases-labels
decreases-labels l = length l.labels
