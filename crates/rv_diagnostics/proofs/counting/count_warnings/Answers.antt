use Rattle.std.proofs.Common.{◌≡◌, ℕ, ◌+◌, List, length, arith, ap, ◌∙◌}
use Rattle.rv_list.specs.JoinedLaws.{length_of_more}
use Rattle.rv_list.specs.PassedLines.{passed_line}
use Rattle.rv_list.specs.Shown.{ShownLine}
use Rattle.rv_report.specs.Warnings.{Warning, warning_of}
use Rattle.rv_diagnostics.specs.Published.{optional, warnings_about}
use Rattle.rv_diagnostics.proofs.Counts.{counted_before}
use Rattle.rv_diagnostics.proofs.counting.count_warnings.Goals as goal

pub loop-k-preserved : goal.loop-k-preserved
loop-k-preserved g c =
    let shown = g.V.View.shown c.args.view.now in
    let k = c.loop-k.k in
    let rows : ℕ → List Warning = λ k. warnings_about shown (k + 1) (shown.line (k + 1)) in
    let line = passed_line {shown = shown} c.line.ensures.value c.advance.ensures.text c.loop-k.invariant.text c.advance.ensures.passed c.loop-k.invariant.passed in
    let here : c.warnings_on.result ≡ length (rows k) = c.warnings_on.ensures.value ∙ ap (λ (s : ShownLine). length (optional (warning_of shown s.stmt.body))) line in
    record {
      all = omega (arith, c.add.ensures.all, c.loop-k.invariant.all, here, length_of_more rows k);
      before = counted_before rows c.args.at k c.warnings_on.result _ _ here c.loop-k.invariant.before c.add.ensures.before;
      within = c.add.ensures.within;
      few = omega (arith, c.loop-k.invariant.few, c.add.ensures.all, c.warnings_on.ensures.few);
      text = c.advance.ensures.text ∙ c.loop-k.invariant.text;
      passed = omega (arith, c.advance.ensures.passed, c.loop-k.invariant.passed);
    }
