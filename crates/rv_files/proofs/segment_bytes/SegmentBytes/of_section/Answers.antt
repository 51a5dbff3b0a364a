use Rattle.rv_files.proofs.PieceLists.{holds_all}
use Rattle.rv_files.proofs.segment_bytes.SegmentBytes.of_section.Goals as goal

pub invariant_of-result : goal.invariant_of-result
invariant_of-result g c =
    let count = rw c.as_slice.ensures.value at c.in_ok-count.ensures.count in
    (count, c.in_ok-count.ensures.few, holds_all c.in_ok-pieces.pieces.items c.in_ok-pieces.ensures.bytes)
