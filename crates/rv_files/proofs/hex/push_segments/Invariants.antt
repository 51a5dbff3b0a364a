use Rattle.std.proofs.Common.{◌≡◌, length}
use Rattle.std.specs.List.{flat_map}
use Rattle.rv_files.specs.Hex.{stretches_of}
use Rattle.rv_text.specs.Halfway.{Halfway}
use Rattle.rv_files.proofs.HexRows.{rows_of}
use Rattle.rv_files.proofs.hex.push_segments.Given as goal

-- the rows of the segments so far are gathered
abbrev pub invariant-segments : goal.invariant-segments
invariant-segments g l = record {
  half : Halfway (g.W.Sink.taken l.fn.sink) l.fn.block (g.W.Sink.taken l.sink) l.block (rows_of 0 (flat_map stretches_of l.fn.segments)) (rows_of l.upper (flat_map stretches_of l.segments));
  failures : g.W.Sink.failures l.sink ≡ g.W.Sink.failures l.fn.sink;
}

abbrev pub decreases-segments : goal.decreases-segments
decreases-segments g l = length l.segments
