use Rattle.std.proofs.Common.{◌≡◌, ◌+◌, length}
use Rattle.rv_list.proofs.ByteRows.{Gathered}
use Rattle.rv_list.proofs.image.push_byte_rows.Given as goal

-- the rows before the one in hand are gathered
abbrev pub invariant-rows : goal.invariant-rows
invariant-rows g l = record {
  gathered : Gathered l.start l.fn.bytes (g.W.Sink.taken l.fn.sink) l.fn.block (g.W.Sink.taken l.sink) l.block l.address l.row.items l.bytes;
  failures : g.W.Sink.failures l.sink ≡ g.W.Sink.failures l.fn.sink;
}

abbrev pub decreases-rows : goal.decreases-rows
decreases-rows g l = length l.row.items + length l.bytes
