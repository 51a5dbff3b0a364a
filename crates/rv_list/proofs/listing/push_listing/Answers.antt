use Rattle.std.proofs.Common.{◌≡◌, ℕ, ◌+◌, List, length, sym, ◌∙◌}
use Rattle.std.proofs.lemmas.Result.{err_from_is_err_and}
use Rattle.rv_list.specs.Listing.{listing_row, listing_rows, listing_text}
use Rattle.rv_list.proofs.Counted.{lost_count, gathers_counted}
use Rattle.rv_list.proofs.Joined.{length_of_singles}
use Rattle.rv_list.proofs.listing.push_listing.Goals as goal

pub returns-in_err-push_count-clause-text : goal.returns-in_err-push_count-clause-text
unfolding listing_text
returns-in_err-push_count-clause-text g c =
    let p = err_from_is_err_and c.from_residual.result c.from_residual.ensures.1 in
    let shown = g.V.View.shown c.args.view.now in
    let row : ℕ → List ℕ = λ k. listing_row (k + 1) (shown.line (k + 1)) in
    let size : length (listing_rows shown) ≡ c.line_count.result = length_of_singles row shown.count ∙ sym c.line_count.ensures.value in
    rw p.1 (lost_count _ (listing_rows shown) _ _ _ _ size c.in_err-push_count.ensures.text)

pub returns-clause-text : goal.returns-clause-text
unfolding listing_text
returns-clause-text g c =
    let shown = g.V.View.shown c.args.view.now in
    let row : ℕ → List ℕ = λ k. listing_row (k + 1) (shown.line (k + 1)) in
    let size : length (listing_rows shown) ≡ c.line_count.result = length_of_singles row shown.count ∙ sym c.line_count.ensures.value in
    gathers_counted _ (listing_rows shown) _ _ _ _ _ _ _ _ size c.in_ok-push_count.ensures.text c.push_listing_rows.ensures.text
