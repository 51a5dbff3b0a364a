use Rattle.std.proofs.Common.{◌≡◌, ℕ, ◌+◌, List, length, arith, ap, ◌∙◌}
use Rattle.rv_list.specs.Symbols.{line_symbols}
use Rattle.rv_list.specs.JoinedLaws.{length_of_more}
use Rattle.rv_list.specs.PassedLines.{passed_line}
use Rattle.rv_list.proofs.symbols.count_symbols.Goals as goal

pub loop-k-preserved : goal.loop-k-preserved
loop-k-preserved g c =
    let shown = g.V.View.shown c.args.view.now in
    let k = c.loop-k.k in
    let rows : ℕ → List (List ℕ) = λ k. line_symbols shown (k + 1) (shown.line (k + 1)) in
    let here : c.count_line-count.result ≡ length (rows k) = c.count_line-count.ensures.count ∙ ap (λ line. length (line_symbols shown (k + 1) line)) (passed_line c.line.ensures.value c.advance.ensures.text c.loop-k.invariant.text c.advance.ensures.passed c.loop-k.invariant.passed) in
    record {
      count = omega (arith, c.loop-k.invariant.count, here, length_of_more rows k);
      few = omega (arith, c.loop-k.invariant.few, c.count_line-count.ensures.few);
      text = c.advance.ensures.text ∙ c.loop-k.invariant.text;
      passed = omega (arith, c.advance.ensures.passed, c.loop-k.invariant.passed);
    }
