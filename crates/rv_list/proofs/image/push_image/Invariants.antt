use Rattle.std.proofs.Common.{◌≡◌}
use Rattle.rv_text.specs.Blocks.{Waits}
use Rattle.rv_list.specs.Image.{section_text}
use Rattle.rv_list.specs.Joined.{joined}
use Rattle.rv_list.proofs.image.push_image.Given as goal

-- the sections so far are gathered
abbrev pub invariant-loop-section : goal.invariant-loop-section
invariant-loop-section g l = record {
  waits : Waits (g.W.Sink.taken l.fn.sink) l.fn.block (joined (section_text (g.V.View.shown l.view)) l.section) (g.W.Sink.taken l.sink) l.block;
  failures : g.W.Sink.failures l.sink ≡ g.W.Sink.failures l.fn.sink;
}
