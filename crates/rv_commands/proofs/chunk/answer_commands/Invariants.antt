use Rattle.std.proofs.Common.{◌≡◌, length}
use Rattle.rv_commands.specs.Steps.{Gathered}
use Rattle.rv_commands.proofs.chunk.answer_commands.Given as goal

abbrev pub invariant-commands : goal.invariant-commands
invariant-commands g l = record {
  gathered : Gathered l.fn.store l.bytes l.rest (g.W.Sink.taken l.fn.sink) l.fn.block (g.W.Sink.taken l.sink) l.block l.store;
  failures : g.W.Sink.failures l.sink ≡ g.W.Sink.failures l.fn.sink;
}

abbrev pub decreases-commands : goal.decreases-commands
decreases-commands g l = length l.rest
