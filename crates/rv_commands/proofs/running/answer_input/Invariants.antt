use Rattle.std.proofs.Common.{◌≡◌, ◌-◌, ◌≤◌}
use Rattle.rv_commands.specs.Steps.{Progress}
use Rattle.rv_commands.proofs.running.answer_input.Given as goal

abbrev pub invariant-reading : goal.invariant-reading
invariant-reading g l = record {
  progress : Progress l.fn.store.base (g.R.Source.left l.fn.source) (g.R.Source.left l.source) (g.W.Sink.taken l.fn.sink) (g.W.Sink.taken l.sink) l.pending.items l.store l.total;
  few : l.total ≤ 67108864;
  reads : g.R.Source.failures l.source ≡ g.R.Source.failures l.fn.source;
  writes : g.W.Sink.failures l.sink ≡ g.W.Sink.failures l.fn.sink;
}

abbrev pub decreases-reading : goal.decreases-reading
decreases-reading g l = 67108864 - l.total
