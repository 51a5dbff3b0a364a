use Rattle.std.proofs.Common.{◌≡◌}
use Rattle.rvls.proofs.run.Session.answer_all.Given as goal

abbrev pub invariant-reading : goal.invariant-reading
invariant-reading g l = record {
  reads : g.R.Source.failures l.source ≡ g.R.Source.failures l.fn.source;
  writes : g.W.Sink.failures l.sink ≡ g.W.Sink.failures l.fn.sink;
}
