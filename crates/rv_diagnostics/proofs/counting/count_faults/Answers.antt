use Rattle.std.proofs.Common.{◌≡◌, ℕ, ◌+◌, List, [], length, arith, ap, sym, ◌∙◌}
use Rattle.std.proofs.lemmas.List.{length-map}
use Rattle.std.specs.Prelude.{Some}
use Rattle.rv_text.specs.declared.faults.Fault.{Fault}
use Rattle.rv_list.specs.Faults.{faults_of}
use Rattle.rv_list.specs.JoinedLaws.{joined_none, length_of_more}
use Rattle.rv_list.specs.PassedLines.{passed_line, passed_quiet}
use Rattle.rv_diagnostics.proofs.Counts.{counted_before, counted_quiet}
use Rattle.rv_diagnostics.proofs.counting.count_faults.Goals as goal

pub loop-k-preserved : goal.loop-k-preserved
loop-k-preserved g c =
    let shown = g.V.View.shown c.args.view.now in
    let k = c.loop-k.k in
    let rows : ℕ → List Fault = λ k. faults_of shown (k + 1) (shown.line (k + 1)) in
    let found = rw (passed_line {shown = shown} c.line.ensures.value c.advance.ensures.text c.loop-k.invariant.text c.advance.ensures.passed c.loop-k.invariant.passed) at c.find_faults.ensures.faults in
    let here : c.len.result ≡ length (rows k) = c.len.ensures.value ∙ ap length found ∙ length-map (rows k) (λ f. Some f) in
    record {
      all = omega (arith, c.add.ensures.all, c.loop-k.invariant.all, here, length_of_more rows k);
      before = counted_before rows c.args.at k c.len.result _ _ here c.loop-k.invariant.before c.add.ensures.before;
      within = c.add.ensures.within;
      few = omega (arith, c.loop-k.invariant.few, c.add.ensures.all, c.len.ensures.value, c.find_faults.ensures.few);
      text = c.advance.ensures.text ∙ c.loop-k.invariant.text;
      passed = omega (arith, c.advance.ensures.passed, c.loop-k.invariant.passed);
    }

pub loop-k-preserved-then-not-may_have_faults : goal.loop-k-preserved-then-not-may_have_faults
loop-k-preserved-then-not-may_have_faults g c =
    let shown = g.V.View.shown c.args.view.now in
    let k = c.loop-k.k in
    let rows : ℕ → List Fault = λ k. faults_of shown (k + 1) (shown.line (k + 1)) in
    let quiet : rows k ≡ [] =
    passed_quiet (c.may_have_faults.ensures c.if-not-may_have_faults.true) c.advance.ensures.text c.loop-k.invariant.text c.advance.ensures.passed c.loop-k.invariant.passed in
    record {
      all = c.loop-k.invariant.all ∙ ap length (sym (joined_none rows k quiet));
      before = counted_quiet rows c.args.at k _ quiet c.loop-k.invariant.before;
      within = c.loop-k.invariant.within;
      few = omega (arith, c.loop-k.invariant.few);
      text = c.advance.ensures.text ∙ c.loop-k.invariant.text;
      passed = omega (arith, c.advance.ensures.passed, c.loop-k.invariant.passed);
    }
