use Rattle.std.proofs.Common.{◌≡◌, ◌+◌, [], ◌∷◌}
use Rattle.std.specs.List.{concat}
use Rattle.rv_text.specs.Blocks.{Waits}
use Rattle.rv_list.specs.Joined.{joined}
use Rattle.rv_list.specs.Listing.{listing_row}
use Rattle.rv_list.proofs.listing.push_listing_rows.Given as goal

-- the rows of the lines so far are gathered
abbrev pub invariant-loop-k : goal.invariant-loop-k
invariant-loop-k g l = record {
  waits : Waits (g.W.Sink.taken l.fn.sink) l.fn.block (concat (joined (λ k. listing_row (k + 1) ((g.V.View.shown l.view).line (k + 1)) ∷ []) l.k)) (g.W.Sink.taken l.sink) l.block;
  failures : g.W.Sink.failures l.sink ≡ g.W.Sink.failures l.fn.sink;
  text : g.V.Lines.LineSource.shown l.lines ≡ g.V.View.shown l.view;
  passed : g.V.Lines.LineSource.passed l.lines ≡ l.k;
}
