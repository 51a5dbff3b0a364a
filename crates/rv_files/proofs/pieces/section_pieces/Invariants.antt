use Rattle.std.proofs.Common.{◌≡◌, ◌+◌}
use Rattle.rv_list.specs.Image.{bytes_in}
use Rattle.rv_list.specs.Joined.{joined}
use Rattle.rv_files.specs.Pieces.{HoldsBytes, bytes_of_pieces}
use Rattle.rv_files.proofs.pieces.section_pieces.Given as goal

-- the bytes of the lines so far
abbrev pub invariant-loop-k : goal.invariant-loop-k
invariant-loop-k g l = record {
  whole : bytes_of_pieces l.pieces.items ≡ joined (λ k. bytes_in l.section ((g.V.View.shown l.view).line (k + 1))) l.k;
  bytes : HoldsBytes l.pieces.items;
  text : g.V.Lines.LineSource.shown l.lines ≡ g.V.View.shown l.view;
  passed : g.V.Lines.LineSource.passed l.lines ≡ l.k;
}
