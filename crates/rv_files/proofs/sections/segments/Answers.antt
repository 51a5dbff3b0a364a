use Rattle.std.proofs.Common.{◌≡◌, ℕ, ◌+◌, List, ◌++◌, ap, sym, ◌∙◌}
use Rattle.rv_list.specs.Joined.{joined}
use Rattle.rv_files.specs.Segments.{Segment, segment_at, unless_empty}
use Rattle.rv_list.specs.JoinedLaws.{joined_more}
use Rattle.rv_files.proofs.sections.segments.Goals as goal

pub loop-section-preserved : goal.loop-section-preserved
loop-section-preserved g c =
    let section = c.loop-section.section in
    let given : ℕ → List Segment = λ t. unless_empty (segment_at (g.V.View.shown c.args.view.now) t) in
    let more : List Segment = joined given section ++ unless_empty c.in_ok-segment.segment in
    let next : more ≡ joined given (section + 1) =
    ap (λ s. joined given section ++ unless_empty s) c.in_ok-segment.ensures.segment ∙ sym (joined_more given section) in
    record {
      segments = rw (← next, ← c.loop-section.invariant.segments) c.in_ok-push_unless_empty.ensures.segments;
      bytes = c.in_ok-push_unless_empty.ensures.bytes c.loop-section.invariant.bytes;
    }
