use Rattle.std.proofs.Common.{◌≡◌, ◌<◌, ℕ, length, get_or}
use Rattle.rv_program.specs.declared.local_row.LocalRow.{LocalRow}
use Rattle.rv_program.specs.internal.Locals.{AreFrom, AreRising, lines_with, lines_below}
use Rattle.rv_program.proofs.locals.Locals.take_out.Given as goal

-- the rows so far have lost them, and all lines before this one stand
abbrev pub invariant-loop-place : goal.invariant-loop-place
invariant-loop-place l = record {
  sorted : AreFrom 0 l.self-inside.rows.items;
  rising : AreRising l.self-inside.rows.items;
  count : length l.self-inside.rows.items ≡ length l.fn.self;
  done : (k : ℕ) (other : LocalRow) → k < l.place → lines_below l.line (get_or l.self-inside.rows.items k other).lines ≡ (get_or l.self-inside.rows.items k other).lines;
  below : (number : ℕ) → lines_below l.line (lines_with l.self-inside.rows.items number) ≡ lines_below l.line (lines_with l.fn.self number);
}
