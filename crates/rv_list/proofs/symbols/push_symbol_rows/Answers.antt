use Rattle.std.proofs.Common.{ℕ, ◌+◌, ◌<◌, List, arith, ◌∙◌}
use Rattle.std.proofs.lemmas.Grind.{common_steps}
use Rattle.std.proofs.lemmas.Result.{err_from_is_err_and}
use Rattle.rv_list.specs.Symbols.{line_symbols}
use Rattle.rv_list.proofs.Joined.{lost_rows, gathered_rows}
use Rattle.rv_list.specs.PassedLines.{passed_line}
use Rattle.rv_list.proofs.symbols.push_symbol_rows.Goals as goal

pub returns-in_err-push_line_symbols-clause-text : goal.returns-in_err-push_line_symbols-clause-text
returns-in_err-push_line_symbols-clause-text g c =
    let p = err_from_is_err_and c.from_residual.result c.from_residual.ensures.1 in
    let shown = g.V.View.shown c.args.view.now in
    let within : c.loop-k.k < shown.count = omega (arith, c.loop-k-test.true, c.line_count-k-end.ensures.value) in
    let rows : ℕ → List (List ℕ) = λ k. line_symbols shown (k + 1) (shown.line (k + 1)) in
    let text = rw (passed_line c.line.ensures.value c.advance.ensures.text c.loop-k.invariant.text c.advance.ensures.passed c.loop-k.invariant.passed) at c.in_err-push_line_symbols.ensures.text in
    rw p.1 (lost_rows rows c.loop-k.k _ _ _ _ _ _ within c.loop-k.invariant.waits text)

pub loop-k-preserved : goal.loop-k-preserved
loop-k-preserved g c =
    let shown = g.V.View.shown c.args.view.now in
    let rows : ℕ → List (List ℕ) = λ k. line_symbols shown (k + 1) (shown.line (k + 1)) in
    let text = rw (passed_line c.line.ensures.value c.advance.ensures.text c.loop-k.invariant.text c.advance.ensures.passed c.loop-k.invariant.passed) at c.in_ok-push_line_symbols.ensures.text in
    record {
      waits = gathered_rows rows c.loop-k.k _ _ _ _ _ _ c.loop-k.invariant.waits text;
      failures = grind (arith, common_steps, c.in_ok-push_line_symbols.ensures.count);
      text = c.advance.ensures.text ∙ c.loop-k.invariant.text;
      passed = omega (arith, c.advance.ensures.passed, c.loop-k.invariant.passed);
    }
