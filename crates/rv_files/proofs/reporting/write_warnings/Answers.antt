use Rattle.std.proofs.Common.{◌≡◌, ℕ, ◌+◌, ◌-◌, ◌<◌, ◌≤◌, List, length, take, arith, ap, refl, sym, ◌∙◌}
use Rattle.std.specs.List.{concat}
use Rattle.std.specs.Prelude.{Some, None}
use Rattle.std.proofs.lemmas.Grind.{common_steps}
use Rattle.std.proofs.lemmas.Result.{err_from_is_err_and}
use Rattle.rv_text.specs.Streams.{after}
use Rattle.rv_text.specs.StreamLaws.{after_none}
use Rattle.rv_list.specs.Joined.{joined}
use Rattle.rv_list.specs.Shown.{ShownLine}
use Rattle.rv_show.specs.Origins.{source_of}
use Rattle.rv_report.specs.Reports.{warning_report_of}
use Rattle.rv_report.specs.Warnings.{warning_of, warning_seen}
use Rattle.rv_store.specs.Shown.{shown_of}
use Rattle.rv_files.specs.TextReports.{warning_reports}
use Rattle.rv_list.specs.JoinedLaws.{joined_none, length_of_more}
use Rattle.rv_list.specs.PassedLines.{passed_line}
use Rattle.rv_files.proofs.FirstReports.{first_lost, first_one, first_reached, first_written, no_warning_here, take_nil, warning_here}
use Rattle.rv_files.proofs.reporting.write_warnings.Goals as goal

pub loop-k-init : goal.loop-k-init
loop-k-init g c =
    let taken = g.W.Sink.taken c.args.sink.now in
    let nothing = ap (λ (l : List (List ℕ)). after taken (concat l)) (take_nil c.args.most) in
    record {
      taken = sym (nothing ∙ after_none taken);
      left = omega arith;
      failures = refl;
      text = c.lines-lines.ensures.text;
      passed = c.lines-lines.ensures.first;
    }

pub returns-then-left-eq0-clause-text : goal.returns-then-left-eq0-clause-text
returns-then-left-eq0-clause-text g c =
    let shown = shown_of c.args.store.now in
    let k = c.loop-k.k in
    let reports : ℕ → List (List ℕ) = λ k. warning_reports c.args.page.now.style (source_of c.args.page.now) shown (k + 1) (shown.line (k + 1)) in
    let within : k ≤ shown.count = omega (arith, c.loop-k-test.true, c.line_count-k-end.ensures.value) in
    let reached : c.args.most ≤ length (joined reports k) = omega (arith, c.loop-k.invariant.left, c.if-left-eq0.true) in
    c.loop-k.invariant.taken ∙ ap (λ l. after (g.W.Sink.taken c.args.sink.now) (concat l)) (first_reached reports c.args.most k shown.count within reached)

pub loop-k-preserved-in_default : goal.loop-k-preserved-in_default
loop-k-preserved-in_default g c =
    let shown = shown_of c.args.store.now in
    let style = c.args.page.now.style in
    let source = source_of c.args.page.now in
    let k = c.loop-k.k in
    let reports : ℕ → List (List ℕ) = λ k. warning_reports style source shown (k + 1) (shown.line (k + 1)) in
    let line = passed_line {shown = shown} c.line-line.ensures.value c.advance.ensures.text c.loop-k.invariant.text c.advance.ensures.passed c.loop-k.invariant.passed in
    let none : warning_of shown (shown.line (k + 1)).stmt.body ≡ None = sym (c.in_default.ensures ∙ ap (λ (s : ShownLine). warning_of shown s.stmt.body) line) in
    let same = joined_none reports k (no_warning_here style source shown (k + 1) (shown.line (k + 1)) none) in
    record {
      taken = rw same c.loop-k.invariant.taken;
      left = rw same c.loop-k.invariant.left;
      failures = c.loop-k.invariant.failures;
      text = c.advance.ensures.text ∙ c.loop-k.invariant.text;
      passed = omega (arith, c.advance.ensures.passed, c.loop-k.invariant.passed);
    }

pub returns-in_err-write_warning-clause-text : goal.returns-in_err-write_warning-clause-text
returns-in_err-write_warning-clause-text g c =
    let p = err_from_is_err_and c.from_residual.result c.from_residual.ensures.1 in
    let shown = shown_of c.args.store.now in
    let style = c.args.page.now.style in
    let source = source_of c.args.page.now in
    let k = c.loop-k.k in
    let reports : ℕ → List (List ℕ) = λ k. warning_reports style source shown (k + 1) (shown.line (k + 1)) in
    let left = c.args.most - length (joined reports k) in
    let within : k < shown.count = omega (arith, c.loop-k-test.true, c.line_count-k-end.ensures.value) in
    let line = passed_line {shown = shown} c.line-line.ensures.value c.advance.ensures.text c.loop-k.invariant.text c.advance.ensures.passed c.loop-k.invariant.passed in
    let warning = warning_seen c.in-Some.warning in
    let one : warning_of shown (shown.line (k + 1)).stmt.body ≡ Some warning = sym (c.in-Some.ensures ∙ ap (λ (s : ShownLine). warning_of shown s.stmt.body) line) in
    let here = warning_here style source shown (k + 1) (shown.line (k + 1)) warning one in
    let some : 0 < left = omega (arith, c.if-left-eq0.false, c.loop-k.invariant.left) in
    let text : concat (take left (reports k)) ≡ warning_report_of style source (k + 1) (shown.line (k + 1)).text warning =
    ap (λ (l : List (List ℕ)). concat (take left l)) here ∙ first_one (warning_report_of style source (k + 1) (shown.line (k + 1)).text warning) left some in
    rw p.1 (first_lost reports c.args.most k shown.count _ _ _ within c.loop-k.invariant.taken (rw text c.in_err-write_warning.ensures.text))

pub loop-k-preserved : goal.loop-k-preserved
loop-k-preserved g c =
    let shown = shown_of c.args.store.now in
    let style = c.args.page.now.style in
    let source = source_of c.args.page.now in
    let k = c.loop-k.k in
    let reports : ℕ → List (List ℕ) = λ k. warning_reports style source shown (k + 1) (shown.line (k + 1)) in
    let left = c.args.most - length (joined reports k) in
    let line = passed_line {shown = shown} c.line-line.ensures.value c.advance.ensures.text c.loop-k.invariant.text c.advance.ensures.passed c.loop-k.invariant.passed in
    let warning = warning_seen c.in-Some.warning in
    let one : warning_of shown (shown.line (k + 1)).stmt.body ≡ Some warning = sym (c.in-Some.ensures ∙ ap (λ (s : ShownLine). warning_of shown s.stmt.body) line) in
    let here = warning_here style source shown (k + 1) (shown.line (k + 1)) warning one in
    let some : 0 < left = omega (arith, c.if-left-eq0.false, c.loop-k.invariant.left) in
    let text : concat (take left (reports k)) ≡ warning_report_of style source (k + 1) (shown.line (k + 1)).text warning =
    ap (λ (l : List (List ℕ)). concat (take left l)) here ∙ first_one (warning_report_of style source (k + 1) (shown.line (k + 1)).text warning) left some in
    let single : length (reports k) ≡ 1 = ap length here in
    record {
      taken = first_written reports c.args.most k _ _ _ c.loop-k.invariant.taken (rw text c.in_ok-write_warning.ensures.text);
      left = omega (arith, c.loop-k.invariant.left, single, length_of_more reports k);
      failures = grind (arith, common_steps, c.in_ok-write_warning.ensures.count);
      text = c.advance.ensures.text ∙ c.loop-k.invariant.text;
      passed = omega (arith, c.advance.ensures.passed, c.loop-k.invariant.passed);
    }
