use Rattle.std.proofs.Common.{◌≡◌, ◌+◌, ◌-◌, ◌≤◌, length, take, arith, ap, sym, ◌∙◌}
use Rattle.std.specs.Str.{bytes_eq}
use Rattle.std.proofs.lemmas.Bool.{not-false}
use Rattle.std.proofs.lemmas.List.{take-take, length-take-le}
use Rattle.std.proofs.lemmas.Slice.Eq.{bytes_eq-Decides}
use Rattle.rv_doc.proofs.SharedBytes.{back-longer}
use Rattle.rv_doc.proofs.shared.shared_last_blocks.Goals as goal

pub pieces-preserved : goal.pieces-preserved
pieces-preserved c =
    let at = c.pieces.at in
    let a = c.args.a.now in
    let b = c.args.b.now in
    let x = c.pieces.rest.now in
    let y = c.pieces.other.now in
    let block = c.split_at.result.1.now in
    let another = c.split_at-in-pieces.result.1.now in
    let same : block ≡ another = (bytes_eq-Decides block another).0 (not-false (bytes_eq block another) (sym c.ne.ensures ∙ c.if-ne.false)) in
    let count : length x ≡ length a - at = ap length c.pieces.invariant.rest ∙ length-take-le (length a - at) a (omega arith) in
    let others : length y ≡ length b - at = ap length c.pieces.invariant.other ∙ length-take-le (length b - at) b (omega arith) in
    let first : at + 64 ≤ length a = omega (arith, count, c.pieces-test.true, c.pieces.invariant.first) in
    let second : at + 64 ≤ length b = omega (arith, others, c.if-other-ge-BLOCK.true, c.pieces.invariant.second) in
    let place : length x - 64 ≡ length a - (at + 64) = omega (arith, count) in
    let place' : length y - 64 ≡ length b - (at + 64) = omega (arith, others) in
    record {
      rest = c.split_at.ensures.front ∙ (λ i. take (place i) (c.pieces.invariant.rest i)) ∙ take-take (length a - (at + 64)) (length a - at) a (omega arith);
      other = c.split_at-in-pieces.ensures.front ∙ (λ i. take (place' i) (c.pieces.invariant.other i)) ∙ take-take (length b - (at + 64)) (length b - at) b (omega arith);
      same = back-longer at 64 a b x y first second c.pieces.invariant.rest c.pieces.invariant.other c.pieces.invariant.same
          (sym c.split_at.ensures.back ∙ same ∙ c.split_at-in-pieces.ensures.back);
      first = first;
      second = second;
    }
