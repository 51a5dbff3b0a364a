use Rattle.std.proofs.Common.{◌≡◌, ℕ, ◌+◌, List, [], length, map, arith, ap, sym, ◌∙◌}
use Rattle.std.proofs.lemmas.List.{length-map}
use Rattle.rv_list.specs.Faults.{fault_row, faults_of}
use Rattle.rv_list.specs.JoinedLaws.{joined_none, length_of_more}
use Rattle.rv_list.specs.PassedLines.{passed_line, passed_quiet}
use Rattle.rv_files.specs.declared.odd_addresses.Reported.{Reported}
use Rattle.rv_files.specs.OddAddresses.{reported_faults}
use Rattle.rv_files.proofs.OddAddresses.{as_many_reported, none_reported_here}
use Rattle.rv_files.proofs.odd_addresses.fault_counts.Goals as goal

pub loop-k-preserved : goal.loop-k-preserved
loop-k-preserved g c =
    let shown = g.V.View.shown c.args.view.now in
    let k = c.loop-k.k in
    let rows : ℕ → List (List ℕ) = λ k. map (fault_row (k + 1)) (faults_of shown (k + 1) (shown.line (k + 1))) in
    let reported : ℕ → List Reported = λ k. reported_faults shown (k + 1) (shown.line (k + 1)) in
    let line = passed_line c.line.ensures.value c.advance.ensures.text c.loop-k.invariant.text c.advance.ensures.passed c.loop-k.invariant.passed in
    let found = rw line at c.find_reported-all.ensures.faults in
    let all = rw line at c.find_reported-all.ensures.all in
    let as_many : length (rows k) ≡ length (faults_of shown (k + 1) (shown.line (k + 1))) = length-map (faults_of shown (k + 1) (shown.line (k + 1))) (fault_row (k + 1)) in
    let here : c.len.result ≡ length (reported k) = c.len.ensures.value ∙ as_many_reported _ (reported k) found in
    record {
      faults = omega (arith, c.loop-k.invariant.faults, all, as_many, length_of_more rows k);
      few = omega (arith, c.loop-k.invariant.few, c.find_reported-all.ensures.most);
      reported = omega (arith, c.loop-k.invariant.reported, here, length_of_more reported k);
      few_reported = omega (arith, c.loop-k.invariant.few_reported, c.len.ensures.value, c.find_reported-all.ensures.few);
      text = c.advance.ensures.text ∙ c.loop-k.invariant.text;
      passed = omega (arith, c.advance.ensures.passed, c.loop-k.invariant.passed);
    }

pub loop-k-preserved-then-not-may_have_faults : goal.loop-k-preserved-then-not-may_have_faults
loop-k-preserved-then-not-may_have_faults g c =
    let shown = g.V.View.shown c.args.view.now in
    let k = c.loop-k.k in
    let rows : ℕ → List (List ℕ) = λ k. map (fault_row (k + 1)) (faults_of shown (k + 1) (shown.line (k + 1))) in
    let reported : ℕ → List Reported = λ k. reported_faults shown (k + 1) (shown.line (k + 1)) in
    let quiet : faults_of shown (k + 1) (shown.line (k + 1)) ≡ [] =
    passed_quiet (c.may_have_faults.ensures c.if-not-may_have_faults.true) c.advance.ensures.text c.loop-k.invariant.text c.advance.ensures.passed c.loop-k.invariant.passed in
    record {
      faults = c.loop-k.invariant.faults ∙ ap length (sym (joined_none rows k (ap (map (fault_row (k + 1))) quiet)));
      few = omega (arith, c.loop-k.invariant.few);
      reported = c.loop-k.invariant.reported ∙ ap length (sym (joined_none reported k (none_reported_here shown (k + 1) (shown.line (k + 1)) quiet)));
      few_reported = omega (arith, c.loop-k.invariant.few_reported);
      text = c.advance.ensures.text ∙ c.loop-k.invariant.text;
      passed = omega (arith, c.advance.ensures.passed, c.loop-k.invariant.passed);
    }
