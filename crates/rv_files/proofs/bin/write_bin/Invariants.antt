use Rattle.std.proofs.Common.{◌≡◌, length}
use Rattle.rv_files.specs.Bin.{bin_bytes}
use Rattle.rv_files.proofs.Partly.{Partly}
use Rattle.rv_files.proofs.bin.write_bin.Given as goal

-- the bytes of the segments so far are written
abbrev pub invariant-segments : goal.invariant-segments
invariant-segments g l = record {
  part : Partly (g.W.Sink.taken l.fn.sink) (bin_bytes l.base l.fn.segments) (g.W.Sink.taken l.sink) (bin_bytes l.at l.segments);
  failures : g.W.Sink.failures l.sink ≡ g.W.Sink.failures l.fn.sink;
}

abbrev pub decreases-segments : goal.decreases-segments
decreases-segments g l = length l.segments
