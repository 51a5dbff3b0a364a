use Rattle.std.proofs.Common.{◌≡◌, take}
use Rattle.std.specs.List.{flat_map}
use Rattle.rv_text.specs.Blocks.{Waits}
use Rattle.rv_commands.specs.Disassembly.{disassembly_row}
use Rattle.rv_commands.proofs.disassembly.push_code_rows.Given as goal

-- the rows so far are gathered
abbrev pub invariant-loop-row : goal.invariant-loop-row
invariant-loop-row g l = record {
  waits : Waits (g.W.Sink.taken l.fn.sink) l.fn.block (flat_map disassembly_row (take l.row-index l.rows)) (g.W.Sink.taken l.sink) l.block;
  failures : g.W.Sink.failures l.sink ≡ g.W.Sink.failures l.fn.sink;
}
