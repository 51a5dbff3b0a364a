use Rattle.std.proofs.Common.{ℕ, ◌+◌, ◌<◌, List, arith, ◌∙◌}
use Rattle.std.proofs.lemmas.Grind.{common_steps}
use Rattle.std.proofs.lemmas.Result.{err_from_is_err_and}
use Rattle.rv_list.specs.Listing.{listing_row}
use Rattle.rv_list.proofs.Joined.{lost_row, gathered_row}
use Rattle.rv_list.specs.PassedLines.{passed_line}
use Rattle.rv_list.proofs.listing.push_listing_rows.Goals as goal

pub returns-in_err-push_listing_row-clause-text : goal.returns-in_err-push_listing_row-clause-text
returns-in_err-push_listing_row-clause-text g c =
    let p = err_from_is_err_and c.from_residual.result c.from_residual.ensures.1 in
    let within : c.loop-k.k < (g.V.View.shown c.args.view.now).count = omega (arith, c.loop-k-test.true, c.line_count-k-end.ensures.value) in
    let row : ℕ → List ℕ = λ k. listing_row (k + 1) ((g.V.View.shown c.args.view.now).line (k + 1)) in
    let text = rw (passed_line c.line.ensures.value c.advance.ensures.text c.loop-k.invariant.text c.advance.ensures.passed c.loop-k.invariant.passed) at c.in_err-push_listing_row.ensures.text in
    rw p.1 (lost_row row c.loop-k.k _ _ _ _ _ _ within c.loop-k.invariant.waits text)

pub loop-k-preserved : goal.loop-k-preserved
loop-k-preserved g c =
    let row : ℕ → List ℕ = λ k. listing_row (k + 1) ((g.V.View.shown c.args.view.now).line (k + 1)) in
    let text = rw (passed_line c.line.ensures.value c.advance.ensures.text c.loop-k.invariant.text c.advance.ensures.passed c.loop-k.invariant.passed) at c.in_ok-push_listing_row.ensures.text in
    record {
      waits = gathered_row row c.loop-k.k _ _ _ _ _ _ c.loop-k.invariant.waits text;
      failures = grind (arith, common_steps, c.in_ok-push_listing_row.ensures.count);
      text = c.advance.ensures.text ∙ c.loop-k.invariant.text;
      passed = omega (arith, c.advance.ensures.passed, c.loop-k.invariant.passed);
    }
