use Rattle.std.proofs.Common.{◌≡◌, ℕ, ◌+◌, List, length, arith, ap, ◌∙◌}
use Rattle.rv_list.specs.Shown.{ShownLine}
use Rattle.rv_report.specs.Warnings.{Warning, warning_of}
use Rattle.rv_files.specs.TextReports.{optional, warnings_about}
use Rattle.rv_list.specs.JoinedLaws.{length_of_more}
use Rattle.rv_list.specs.PassedLines.{passed_line}
use Rattle.rv_files.proofs.counting.warning_count.Goals as goal

pub loop-preserved : goal.loop-preserved
loop-preserved g c =
    let shown = g.V.View.shown c.args.view.now in
    let k = c.loop.counter in
    let warnings : ℕ → List Warning = λ k. warnings_about shown (shown.line (k + 1)) in
    let line = passed_line {shown = shown} c.line.ensures.value c.advance.ensures.text c.loop.invariant.text c.advance.ensures.passed c.loop.invariant.passed in
    let here : c.warnings_on-count.result ≡ length (warnings k) = c.warnings_on-count.ensures.value ∙ ap (λ (s : ShownLine). length (optional (warning_of shown s.stmt.body))) line in
    record {
      count = omega (arith, c.loop.invariant.count, here, length_of_more warnings k);
      few = omega (arith, c.loop.invariant.few, c.warnings_on-count.ensures.few);
      text = c.advance.ensures.text ∙ c.loop.invariant.text;
      passed = omega (arith, c.advance.ensures.passed, c.loop.invariant.passed);
    }
