use Rattle.std.proofs.Common.{◌≡◌, ◌-◌, length, drop, arith, ap, sym, ◌∙◌}
use Rattle.std.specs.Str.{bytes_eq}
use Rattle.std.proofs.lemmas.Bool.{not-false}
use Rattle.std.proofs.lemmas.List.{drop-drop, length-drop}
use Rattle.std.proofs.lemmas.Slice.Eq.{bytes_eq-Decides}
use Rattle.rv_doc.proofs.SharedBytes.{front-longer}
use Rattle.rv_doc.proofs.shared.shared_blocks.Goals as goal

pub pieces-preserved : goal.pieces-preserved
pieces-preserved c =
    let at = c.pieces.at in
    let a = c.args.a.now in
    let b = c.args.b.now in
    let block = c.split_at.result.0.now in
    let another = c.split_at-in-pieces.result.0.now in
    let same : block ≡ another = (bytes_eq-Decides block another).0 (not-false (bytes_eq block another) (sym c.ne.ensures ∙ c.if-ne.false)) in
    let count : length c.pieces.rest.now ≡ length a - at = ap length c.pieces.invariant.rest ∙ length-drop at a in
    let others : length c.pieces.other.now ≡ length b - at = ap length c.pieces.invariant.other ∙ length-drop at b in
    record {
      rest = c.split_at.ensures.back ∙ ap (drop 64) c.pieces.invariant.rest ∙ drop-drop 64 at a;
      other = c.split_at-in-pieces.ensures.back ∙ ap (drop 64) c.pieces.invariant.other ∙ drop-drop 64 at b;
      same = front-longer at 64 a b c.pieces.rest.now c.pieces.other.now c.pieces.invariant.rest c.pieces.invariant.other c.pieces.invariant.same
          (sym c.split_at.ensures.front ∙ same ∙ c.split_at-in-pieces.ensures.front);
      first = omega (arith, count, c.pieces-test.true, c.pieces.invariant.first);
      second = omega (arith, others, c.if-other-ge-BLOCK.true, c.pieces.invariant.second);
    }
