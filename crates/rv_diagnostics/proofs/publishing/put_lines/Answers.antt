use Rattle.std.proofs.Common.{◌≡◌, ℕ, ◌+◌, ◌≤◌, ◌++◌, List, [], length, map, Some, arith, ap, sym, ◌∙◌}
use Rattle.std.proofs.lemmas.List.{nil_from_length}
use Rattle.json.specs.Token.{Token}
use Rattle.rv_list.specs.Faults.{faults_of}
use Rattle.rv_list.specs.JoinedLaws.{joined_none}
use Rattle.rv_list.specs.PassedLines.{passed_line, passed_quiet}
use Rattle.rv_list.specs.Shown.{ShownLine}
use Rattle.rv_doc.specs.Windows.{passed}
use Rattle.rv_report.specs.Lines.{words_of}
use Rattle.rv_diagnostics.specs.Published.{line_diagnostics, shown_in}
use Rattle.rv_diagnostics.proofs.ShownRows.{diagnostic_count, found_count, left_more, line_shown, shown_all, shown_none, written_more}
use Rattle.rv_diagnostics.proofs.WindowLaws.{passed_none}
use Rattle.rv_diagnostics.proofs.publishing.put_lines.Goals as goal

pub loop-k-init : goal.loop-k-init
loop-k-init g c = record {
  said = shown_none c.args.window.now c.args.m.now;
  left = sym (passed_none c.args.window.now);
  text = c.lines-lines.ensures.text;
  passed = c.lines-lines.ensures.first;
}

pub put_line-requires-clause-line : goal.put_line-requires-clause-line
put_line-requires-clause-line g c =
    passed_line {shown = g.T.View.shown c.args.told.now} c.line-line.ensures.value c.advance.ensures.text c.loop-k.invariant.text c.advance.ensures.passed c.loop-k.invariant.passed

pub loop-k-preserved : goal.loop-k-preserved
loop-k-preserved g c =
    let shown = g.T.View.shown c.args.told.now in
    let context = c.args.context.now in
    let k = c.loop-k.k in
    let words = words_of c.args.words in
    let given = g.T.Told.environments c.args.told.now in
    let line = shown.line (k + 1) in
    let rows : ℕ → List (List Token) = λ k. line_diagnostics context.encoding context.uri.now given shown words (k + 1) (shown.line (k + 1)) in
    let is = passed_line {shown = shown} c.line-line.ensures.value c.advance.ensures.text c.loop-k.invariant.text c.advance.ensures.passed c.loop-k.invariant.passed in
    let faulty = c.as_slice.ensures.value ∙ c.find_faults.ensures.faults ∙ ap (λ (s : ShownLine). map (λ f. Some f) (faults_of shown (k + 1) s)) is in
    let written = line_shown context.encoding context.uri.now given shown words (k + 1) line c.loop-k.window _ _ faulty c.pass-shown.ensures.shown in
    let count = found_count shown (k + 1) line _ faulty ∙ sym (diagnostic_count context.encoding context.uri.now given shown words (k + 1) line) in
    record {
      said = written_more rows _ _ k _ _ _ c.loop-k.invariant.said c.loop-k.invariant.left (c.in_ok-put_line.ensures ∙ ap (λ t. c.loop-k.m ++ t) written);
      left = left_more rows _ _ _ k c.loop-k.invariant.left (c.pass-shown.ensures.passed ∙ ap (passed c.loop-k.window) count);
      text = c.advance.ensures.text ∙ c.loop-k.invariant.text;
      passed = omega (arith, c.advance.ensures.passed, c.loop-k.invariant.passed);
    }

pub returns-then-window-eq0 : goal.returns-then-window-eq0
returns-then-window-eq0 g c =
    let shown = g.T.View.shown c.args.told.now in
    let context = c.args.context.now in
    let k = c.loop-k.k in
    let rows : ℕ → List (List Token) = λ k. line_diagnostics context.encoding context.uri.now (g.T.Told.environments c.args.told.now) shown (words_of c.args.words) (k + 1) (shown.line (k + 1)) in
    let within : k ≤ shown.count = omega (arith, c.loop-k-test.true, c.line_count-k-end.ensures.value) in
    let none : c.loop-k.window.most ≡ 0 = omega (arith, c.if-window-eq0.true) in
    c.loop-k.invariant.said ∙ ap (λ t. c.args.m.now ++ t) (shown_all rows c.args.window.now c.loop-k.window k shown.count within c.loop-k.invariant.left none)

pub loop-k-preserved-then-not-may_have_faults : goal.loop-k-preserved-then-not-may_have_faults
loop-k-preserved-then-not-may_have_faults g c =
    let shown = g.T.View.shown c.args.told.now in
    let context = c.args.context.now in
    let k = c.loop-k.k in
    let words = words_of c.args.words in
    let given = g.T.Told.environments c.args.told.now in
    let rows : ℕ → List (List Token) = λ k. line_diagnostics context.encoding context.uri.now given shown words (k + 1) (shown.line (k + 1)) in
    let quiet : faults_of shown (k + 1) (shown.line (k + 1)) ≡ [] =
    passed_quiet (c.may_have_faults.ensures c.if-not-may_have_faults.true) c.advance.ensures.text c.loop-k.invariant.text c.advance.ensures.passed c.loop-k.invariant.passed in
    let none : rows k ≡ [] = nil_from_length (rows k) (diagnostic_count context.encoding context.uri.now given shown words (k + 1) (shown.line (k + 1)) ∙ ap length quiet) in
    let same = sym (joined_none rows k none) in
    record {
      said = c.loop-k.invariant.said ∙ ap (λ t. c.args.m.now ++ shown_in c.args.window.now t) same;
      left = c.loop-k.invariant.left ∙ ap (λ (t : List (List Token)). passed c.args.window.now (length t)) same;
      text = c.advance.ensures.text ∙ c.loop-k.invariant.text;
      passed = omega (arith, c.advance.ensures.passed, c.loop-k.invariant.passed);
    }
