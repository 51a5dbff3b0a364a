use Rattle.std.proofs.Common.{◌≡◌, length}
use Rattle.rv_files.specs.Pieces.{bytes_of_pieces}
use Rattle.rv_files.proofs.Partly.{Partly}
use Rattle.rv_files.proofs.segment_bytes.write_pieces.Given as goal

-- the pieces so far are written
abbrev pub invariant-pieces : goal.invariant-pieces
invariant-pieces g l = record {
  part : Partly (g.W.Sink.taken l.fn.sink) (bytes_of_pieces l.fn.pieces) (g.W.Sink.taken l.sink) (bytes_of_pieces l.pieces);
  failures : g.W.Sink.failures l.sink ≡ g.W.Sink.failures l.fn.sink;
}

abbrev pub decreases-pieces : goal.decreases-pieces
decreases-pieces g l = length l.pieces
