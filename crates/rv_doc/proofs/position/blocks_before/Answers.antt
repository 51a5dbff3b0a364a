use Rattle.std.proofs.Common.{◌≡◌, ◌-◌, ◌<◌, ◌==◌, sym, ◌∙◌, ap, arith, length, take, drop}
use Rattle.std.proofs.lemmas.Grind.{common_steps}
use Rattle.std.proofs.lemmas.List.{drop-drop}
use Rattle.std.specs.List.{count_by}
use Rattle.rv_doc.proofs.Blocks.{size_passed, line_passed}
use Rattle.rv_doc.proofs.position.blocks_before.Goals as goal

pub pieces-preserved : goal.pieces-preserved
pieces-preserved c =
    let rest = c.pieces.rest.now in
    let n = c.pieces.left in
    let breaks : c.from-breaks.result ≡ count_by (λ b. b == 10) (take 128 rest) = c.from-breaks.ensures ∙ c.breaks_in.ensures.value ∙ ap (λ t. count_by (λ b. b == 10) t) c.split_at.ensures.front in
    let few : count_by (λ b. b == 10) (take 128 rest) < n = omega (arith, breaks, c.if-left-breaks.false) in
    let left : n - c.from-breaks.result ≡ n - count_by (λ b. b == 10) (take 128 rest) = omega (arith, breaks) in
    let room : length (take 128 rest) ≡ 128 = grind (arith, common_steps, c.pieces-test.true) in
    record {
      size = rw (c.split_at.ensures.back, left) (omega (arith, c.pieces.invariant.size, size_passed rest 128 n few, room));
      line = rw (c.split_at.ensures.back, left) (c.pieces.invariant.line ∙ line_passed rest 128 n few);
      rest = sym (drop-drop 128 c.pieces.at c.args.text.now) ∙ ap (λ t. drop 128 t) c.pieces.invariant.rest ∙ sym c.split_at.ensures.back;
      within = grind (arith, common_steps, c.pieces.invariant.within, c.split_at.ensures.back);
    }
