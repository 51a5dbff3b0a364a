use Rattle.std.proofs.Common.{◌≡◌, take}
use Rattle.std.specs.List.{flat_map}
use Rattle.rv_text.specs.Blocks.{Waits}
use Rattle.rv_commands.specs.Pages.{ended}
use Rattle.rv_commands.proofs.pages.push_lines.Given as goal

-- the lines so far are gathered
abbrev pub invariant-loop-k : goal.invariant-loop-k
invariant-loop-k g l = record {
  waits : Waits (g.W.Sink.taken l.fn.sink) l.fn.block (flat_map ended (take l.k l.store.lines)) (g.W.Sink.taken l.sink) l.block;
  failures : g.W.Sink.failures l.sink ≡ g.W.Sink.failures l.fn.sink;
}
