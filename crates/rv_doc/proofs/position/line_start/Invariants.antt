use Rattle.std.proofs.Common.{◌≡◌, ◌+◌, length, drop, min}
use Rattle.rv_doc.specs.Positions.{lines_of, size_of_lines, line_at}
use Rattle.rv_doc.proofs.position.line_start.Given as goal

abbrev pub invariant-lines : goal.invariant-lines
invariant-lines l = record {
  value : min (length l.text) (size_of_lines (lines_of l.text) l.line) ≡ l.at + min (length l.rest) (size_of_lines (lines_of l.rest) l.left);
  line : line_at (lines_of l.text) l.line ≡ line_at (lines_of l.rest) l.left;
  rest : drop l.at l.text ≡ l.rest;
  within : l.at + length l.rest ≡ length l.text;
}

abbrev pub decreases-lines : goal.decreases-lines
decreases-lines l = l.left
