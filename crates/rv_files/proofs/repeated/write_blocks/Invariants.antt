use Rattle.std.proofs.Common.{◌≡◌}
use Rattle.std.specs.Prelude.{replicate}
use Rattle.rv_files.proofs.Partly.{Partly}
use Rattle.rv_files.proofs.repeated.write_blocks.Given as goal

-- some blocks are written
abbrev pub invariant-writing : goal.invariant-writing
invariant-writing g l = record {
  part : Partly (g.W.Sink.taken l.fn.sink) (replicate l.count l.byte) (g.W.Sink.taken l.sink) (replicate l.left l.byte);
  failures : g.W.Sink.failures l.sink ≡ g.W.Sink.failures l.fn.sink;
}

abbrev pub decreases-writing : goal.decreases-writing
decreases-writing g l = l.left
