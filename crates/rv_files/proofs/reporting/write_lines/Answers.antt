use Rattle.std.proofs.Common.{◌≡◌, ℕ, ◌+◌, ◌-◌, ◌<◌, ◌≤◌, List, length, map, take, min, arith, ap, refl, sym, ◌∙◌}
use Rattle.std.specs.List.{concat}
use Rattle.std.proofs.lemmas.Grind.{common_steps}
use Rattle.std.proofs.lemmas.Result.{err_from_is_err_and}
use Rattle.rv_text.specs.Streams.{after}
use Rattle.rv_text.specs.StreamLaws.{after_none}
use Rattle.rv_list.specs.Joined.{joined}
use Rattle.rv_show.specs.Origins.{source_of}
use Rattle.rv_report.specs.Lines.{words_of}
use Rattle.rv_store.specs.Shown.{shown_of}
use Rattle.rv_files.specs.TextReports.{line_reports}
use Rattle.rv_list.specs.JoinedLaws.{length_of_more}
use Rattle.rv_list.specs.PassedLines.{passed_line}
use Rattle.rv_files.proofs.FirstReports.{as_many, first_faults, first_lost, first_reached, first_written, found_reports, take_nil}
use Rattle.rv_files.proofs.reporting.write_lines.Goals as goal

pub loop-k-init : goal.loop-k-init
loop-k-init g c =
    let taken = g.W.Sink.taken c.args.sink.now in
    let nothing = ap (λ (l : List (List ℕ)). after taken (concat l)) (take_nil c.args.most) in
    record {
      taken = sym (nothing ∙ after_none taken);
      left = omega arith;
      failures = refl;
      text = c.lines-lines.ensures.text;
      passed = c.lines-lines.ensures.first;
    }

pub write_line-requires-clause-line : goal.write_line-requires-clause-line
write_line-requires-clause-line g c =
    passed_line {shown = shown_of c.args.store.now} c.line-line.ensures.value c.advance.ensures.text c.loop-k.invariant.text c.advance.ensures.passed c.loop-k.invariant.passed

pub write_line-requires-clause-faults : goal.write_line-requires-clause-faults
write_line-requires-clause-faults g c =
    first_faults c.min.result _ _ (c.split_at.ensures.front ∙ ap (take c.min.result) (c.as_slice.ensures.value ∙ c.find_reported.ensures.faults))

pub returns-then-left-eq0-clause-text : goal.returns-then-left-eq0-clause-text
returns-then-left-eq0-clause-text g c =
    let store = c.args.store.now in
    let words = words_of c.args.words in
    let k = c.loop-k.k in
    let reports : ℕ → List (List ℕ) = λ k. line_reports c.args.page.now.style (source_of c.args.page.now) store words (k + 1) ((shown_of store).line (k + 1)) in
    let within : k ≤ (shown_of store).count = omega (arith, c.loop-k-test.true, c.line_count-k-end.ensures.value) in
    let reached : c.args.most ≤ length (joined reports k) = omega (arith, c.loop-k.invariant.left, c.if-left-eq0.true) in
    c.loop-k.invariant.taken ∙ ap (λ l. after (g.W.Sink.taken c.args.sink.now) (concat l)) (first_reached reports c.args.most k (shown_of store).count within reached)

pub returns-in_err-write_line-clause-text : goal.returns-in_err-write_line-clause-text
returns-in_err-write_line-clause-text g c =
    let p = err_from_is_err_and c.from_residual.result c.from_residual.ensures.1 in
    let store = c.args.store.now in
    let style = c.args.page.now.style in
    let source = source_of c.args.page.now in
    let words = words_of c.args.words in
    let k = c.loop-k.k in
    let reports : ℕ → List (List ℕ) = λ k. line_reports style source store words (k + 1) ((shown_of store).line (k + 1)) in
    let within : k < (shown_of store).count = omega (arith, c.loop-k-test.true, c.line_count-k-end.ensures.value) in
    let line = passed_line {shown = shown_of store} c.line-line.ensures.value c.advance.ensures.text c.loop-k.invariant.text c.advance.ensures.passed c.loop-k.invariant.passed in
    let found = rw line at c.find_reported.ensures.faults in
    let here : c.len.result ≡ length (reports k) = c.len.ensures.value ∙ found_reports style source store words (k + 1) ((shown_of store).line (k + 1)) _ found in
    let count : length c.split_at.result.0.now ≡ min (c.args.most - length (joined reports k)) (length (reports k)) = omega (arith, c.split_at.ensures.front_len, c.min.ensures, here, c.loop-k.invariant.left) in
    let text = rw (as_many (reports k) (length c.split_at.result.0.now) (c.args.most - length (joined reports k)) count) at c.in_err-write_line.ensures.text in
    rw p.1 (first_lost reports c.args.most k (shown_of store).count _ _ _ within c.loop-k.invariant.taken text)

pub loop-k-preserved : goal.loop-k-preserved
loop-k-preserved g c =
    let store = c.args.store.now in
    let style = c.args.page.now.style in
    let source = source_of c.args.page.now in
    let words = words_of c.args.words in
    let k = c.loop-k.k in
    let reports : ℕ → List (List ℕ) = λ k. line_reports style source store words (k + 1) ((shown_of store).line (k + 1)) in
    let line = passed_line {shown = shown_of store} c.line-line.ensures.value c.advance.ensures.text c.loop-k.invariant.text c.advance.ensures.passed c.loop-k.invariant.passed in
    let found = rw line at c.find_reported.ensures.faults in
    let here : c.len.result ≡ length (reports k) = c.len.ensures.value ∙ found_reports style source store words (k + 1) ((shown_of store).line (k + 1)) _ found in
    let count : length c.split_at.result.0.now ≡ min (c.args.most - length (joined reports k)) (length (reports k)) = omega (arith, c.split_at.ensures.front_len, c.min.ensures, here, c.loop-k.invariant.left) in
    let text = rw (as_many (reports k) (length c.split_at.result.0.now) (c.args.most - length (joined reports k)) count) at c.in_ok-write_line.ensures.text in
    record {
      taken = first_written reports c.args.most k _ _ _ c.loop-k.invariant.taken text;
      left = omega (arith, c.loop-k.invariant.left, count, length_of_more reports k);
      failures = grind (arith, common_steps, c.in_ok-write_line.ensures.count);
      text = c.advance.ensures.text ∙ c.loop-k.invariant.text;
      passed = omega (arith, c.advance.ensures.passed, c.loop-k.invariant.passed);
    }
