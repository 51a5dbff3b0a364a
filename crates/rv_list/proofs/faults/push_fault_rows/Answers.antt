use Rattle.std.proofs.Common.{◌≡◌, ℕ, ◌+◌, ◌-◌, ◌≤◌, ◌<◌, List, [], length, map, arith, ap, ◌∙◌}
use Rattle.std.proofs.lemmas.Grind.{common_steps}
use Rattle.std.proofs.lemmas.Result.{err_from_is_err_and}
use Rattle.rv_list.specs.Faults.{fault_row, faults_of}
use Rattle.rv_list.specs.Joined.{joined}
use Rattle.rv_list.specs.FoundFaults.{all_found, found_rows}
use Rattle.rv_list.proofs.Joined.{joined_within, joined_no_more, lost_rows, gathered_rows}
use Rattle.rv_list.specs.JoinedLaws.{joined_none, length_of_more}
use Rattle.rv_list.specs.PassedLines.{passed_line, passed_quiet}
use Rattle.rv_list.proofs.faults.push_fault_rows.Goals as goal

next_within : (k n : ℕ) → k < n → k + 1 ≤ n
next_within k n h = omega arith

-- the faults of the line are among those that are left
fits : (left before after lines here whole count : ℕ) → left + before ≡ count → count ≡ whole → after ≡ before + lines → here ≡ lines → after ≤ whole → here ≤ left
fits left before after lines here whole count a b d e h = omega arith

-- so many are left behind it
less : (left before after lines here whole count : ℕ) → left + before ≡ count → count ≡ whole → after ≡ before + lines → here ≡ lines → after ≤ whole → left - here + after ≡ count
less left before after lines here whole count a b d e h = omega arith

pub returns-in_err-push_line_faults-clause-text : goal.returns-in_err-push_line_faults-clause-text
returns-in_err-push_line_faults-clause-text g c =
    let p = err_from_is_err_and c.from_residual.result c.from_residual.ensures.1 in
    let shown = g.V.View.shown c.args.view.now in
    let within : c.loop-k.k < shown.count = rw c.line_count-k-end.ensures.value at c.loop-k-test.true in
    let rows : ℕ → List (List ℕ) = λ k. map (fault_row (k + 1)) (faults_of shown (k + 1) (shown.line (k + 1))) in
    let found = rw (passed_line c.line.ensures.value c.advance.ensures.text c.loop-k.invariant.text c.advance.ensures.passed c.loop-k.invariant.passed) at c.find_faults.ensures.faults in
    let text = rw (c.as_slice.ensures.value, found, all_found) at c.in_err-push_line_faults.ensures.text in
    rw p.1 (lost_rows rows c.loop-k.k _ _ _ _ _ _ within c.loop-k.invariant.waits text)

pub returns-then-left-eq0-clause-text : goal.returns-then-left-eq0-clause-text
returns-then-left-eq0-clause-text g c =
    let shown = g.V.View.shown c.args.view.now in
    let k = c.loop-k.k in
    let rows : ℕ → List (List ℕ) = λ k. map (fault_row (k + 1)) (faults_of shown (k + 1) (shown.line (k + 1))) in
    let within : k ≤ shown.count = omega (arith, c.loop-k-test.true, c.line_count-k-end.ensures.value) in
    let same : length (joined rows k) ≡ length (joined rows shown.count) = omega (arith, c.loop-k.invariant.left, c.if-left-eq0.true, c.requires.counted) in
    rw (joined_no_more rows k shown.count within same) c.loop-k.invariant.waits

pub overflow_sub-left : goal.overflow_sub-left
overflow_sub-left g c =
    let shown = g.V.View.shown c.args.view.now in
    let k = c.loop-k.k in
    let rows : ℕ → List (List ℕ) = λ k. map (fault_row (k + 1)) (faults_of shown (k + 1) (shown.line (k + 1))) in
    let within : k + 1 ≤ shown.count = next_within k shown.count (rw c.line_count-k-end.ensures.value at c.loop-k-test.true) in
    let found = rw (passed_line c.line.ensures.value c.advance.ensures.text c.loop-k.invariant.text c.advance.ensures.passed c.loop-k.invariant.passed) at c.find_faults.ensures.faults in
    let here : c.len.result ≡ length (rows k) = c.len.ensures.value ∙ found_rows (k + 1) _ _ found in
    fits c.loop-k.left (length (joined rows k)) (length (joined rows (k + 1))) (length (rows k)) c.len.result (length (joined rows shown.count)) c.args.count c.loop-k.invariant.left c.requires.counted (length_of_more rows k) here (joined_within rows (k + 1) shown.count within)

pub loop-k-preserved : goal.loop-k-preserved
loop-k-preserved g c =
    let shown = g.V.View.shown c.args.view.now in
    let rows : ℕ → List (List ℕ) = λ k. map (fault_row (k + 1)) (faults_of shown (k + 1) (shown.line (k + 1))) in
    let found = rw (passed_line c.line.ensures.value c.advance.ensures.text c.loop-k.invariant.text c.advance.ensures.passed c.loop-k.invariant.passed) at c.find_faults.ensures.faults in
    let text = rw (c.as_slice.ensures.value, found, all_found) at c.in_ok-push_line_faults.ensures.text in
    let here : c.len.result ≡ length (rows c.loop-k.k) = c.len.ensures.value ∙ found_rows (c.loop-k.k + 1) _ _ found in
    let within : c.loop-k.k + 1 ≤ shown.count = next_within c.loop-k.k shown.count (rw c.line_count-k-end.ensures.value at c.loop-k-test.true) in
    record {
      left = less c.loop-k.left (length (joined rows c.loop-k.k)) (length (joined rows (c.loop-k.k + 1))) (length (rows c.loop-k.k)) c.len.result (length (joined rows shown.count)) c.args.count c.loop-k.invariant.left c.requires.counted (length_of_more rows c.loop-k.k) here (joined_within rows (c.loop-k.k + 1) shown.count within);
      waits = gathered_rows rows c.loop-k.k _ _ _ _ _ _ c.loop-k.invariant.waits text;
      failures = grind (arith, common_steps, c.in_ok-push_line_faults.ensures.count);
      text = c.advance.ensures.text ∙ c.loop-k.invariant.text;
      passed = omega (arith, c.advance.ensures.passed, c.loop-k.invariant.passed);
    }

pub loop-k-preserved-then-not-may_have_faults : goal.loop-k-preserved-then-not-may_have_faults
loop-k-preserved-then-not-may_have_faults g c =
    let shown = g.V.View.shown c.args.view.now in
    let k = c.loop-k.k in
    let rows : ℕ → List (List ℕ) = λ k. map (fault_row (k + 1)) (faults_of shown (k + 1) (shown.line (k + 1))) in
    let quiet : faults_of shown (k + 1) (shown.line (k + 1)) ≡ [] =
    passed_quiet (c.may_have_faults.ensures c.if-not-may_have_faults.true) c.advance.ensures.text c.loop-k.invariant.text c.advance.ensures.passed c.loop-k.invariant.passed in
    let none = joined_none rows k (ap (map (fault_row (k + 1))) quiet) in
    record {
      left = ap (λ l. c.loop-k.left + length l) none ∙ c.loop-k.invariant.left;
      waits = rw none c.loop-k.invariant.waits;
      failures = c.loop-k.invariant.failures;
      text = c.advance.ensures.text ∙ c.loop-k.invariant.text;
      passed = omega (arith, c.advance.ensures.passed, c.loop-k.invariant.passed);
    }
