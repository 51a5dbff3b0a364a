use Rattle.std.proofs.Common.{◌≡◌, ◌+◌, length, drop}
use Rattle.rv_doc.specs.Positions.{lines_of, size_of_lines, line_at}
use Rattle.rv_doc.proofs.position.blocks_before.Given as goal

abbrev pub invariant-pieces : goal.invariant-pieces
invariant-pieces l = record {
  size : size_of_lines (lines_of l.text) l.line ≡ l.at + size_of_lines (lines_of l.rest) l.left;
  line : line_at (lines_of l.text) l.line ≡ line_at (lines_of l.rest) l.left;
  rest : drop l.at l.text ≡ l.rest;
  within : l.at + length l.rest ≡ length l.text;
}

abbrev pub decreases-pieces : goal.decreases-pieces
decreases-pieces l = length l.rest
