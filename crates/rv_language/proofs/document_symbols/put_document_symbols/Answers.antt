use Rattle.std.proofs.Common.{ℕ, ◌+◌, List, arith, ◌∙◌}
use Rattle.json.specs.Token.{Token}
use Rattle.rv_list.specs.PassedLines.{passed_line}
use Rattle.rv_language.specs.DocumentSymbols.{line_symbols}
use Rattle.rv_language.proofs.DocumentSymbols.{next_joined}
use Rattle.rv_language.proofs.document_symbols.put_document_symbols.Goals as goal

pub loop-k-preserved : goal.loop-k-preserved
loop-k-preserved g c =
    let shown = g.V.View.shown c.args.view.now in
    let symbols : ℕ → List Token = λ k. line_symbols c.args.context.now.encoding shown (k + 1) (shown.line (k + 1)) in
    let said = rw (passed_line c.line.ensures.value c.advance.ensures.text c.loop-k.invariant.text c.advance.ensures.passed c.loop-k.invariant.passed) at c.in_ok-put_line.ensures in
    record {
      said = next_joined symbols c.loop-k.k _ _ _ c.loop-k.invariant.said said;
      text = c.advance.ensures.text ∙ c.loop-k.invariant.text;
      passed = omega (arith, c.advance.ensures.passed, c.loop-k.invariant.passed);
    }
