use Rattle.std.proofs.Common.{◌≡◌}
use Rattle.rv_files.specs.Hex.{stretches, stretches_of, upper_after}
use Rattle.rv_text.specs.Halfway.{Halfway}
use Rattle.rv_files.proofs.HexRows.{rows_of}
use Rattle.rv_files.proofs.hex.push_segment.Given as goal

-- the rows so far are gathered
abbrev pub invariant-stretches : goal.invariant-stretches
invariant-stretches g l = record {
  half : Halfway (g.W.Sink.taken l.fn.sink) l.fn.block (g.W.Sink.taken l.sink) l.block (rows_of l.before (stretches_of l.segment)) (rows_of l.upper (stretches l.address l.left l.rows));
  upper : upper_after l.upper (stretches l.address l.left l.rows) ≡ upper_after l.before (stretches_of l.segment);
  failures : g.W.Sink.failures l.sink ≡ g.W.Sink.failures l.fn.sink;
}

abbrev pub decreases-stretches : goal.decreases-stretches
decreases-stretches g l = l.rows
