use Rattle.std.proofs.Common.{◌≡◌, ◌+◌, [], ◌∷◌, length}
use Rattle.rv_list.specs.Joined.{joined}
use Rattle.rv_files.specs.OddAddresses.{parity_of}
use Rattle.rv_files.proofs.odd_addresses.parities.Given as goal

-- those of the lines so far
abbrev pub invariant-loop : goal.invariant-loop
invariant-loop g l = record {
  whole : l.parities.items ≡ joined (λ k. parity_of ((g.V.View.shown l.view).line (k + 1)) ∷ []) l.counter;
  count : length l.parities.items ≡ l.counter;
  text : g.V.Lines.LineSource.shown l.lines ≡ g.V.View.shown l.view;
  passed : g.V.Lines.LineSource.passed l.lines ≡ l.counter;
}
