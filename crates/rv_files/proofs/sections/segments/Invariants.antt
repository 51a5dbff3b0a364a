use Rattle.std.proofs.Common.{◌≡◌}
use Rattle.rv_list.specs.Joined.{joined}
use Rattle.rv_files.specs.Segments.{HoldBytes, segment_at, unless_empty}
use Rattle.rv_files.proofs.sections.segments.Given as goal

-- the segments of the sections so far
abbrev pub invariant-loop-section : goal.invariant-loop-section
invariant-loop-section g l = record {
  segments : l.segments.items ≡ joined (λ t. unless_empty (segment_at (g.V.View.shown l.view) t)) l.section;
  bytes : HoldBytes l.segments.items;
}
