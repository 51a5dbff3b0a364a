use Rattle.std.proofs.Common.{◌≡◌, ◌++◌, List, ℕ, subst, ◌∙◌, append_assoc}
use Rattle.rv_doc.specs.Positions.{lines_of}
use Rattle.rv_program.specs.Text.{Text}
use Rattle.rv_store.specs.Shown.{shown_of}
use Rattle.rv_diagnostics.specs.Published.{diagnostics_of}
use Rattle.rvls.specs.DocumentDiagnostics.{names_in, report}
use Rattle.rvls.proofs.publishing.put_report.Goals as goal

pub returns : goal.returns
unfolding report
returns c =
    let context = c.args.context.now in
    let told = c.of-told.result.store.now in
    let store = c.of-told.ensures ∙ c.store.ensures in
    let text = subst (λ (d : List ℕ). c.put_nearest.new.m ≡ c.put_all.new.self ++ diagnostics_of context.encoding context.uri.now (names_in told) (shown_of told) (lines_of d) c.args.at) c.text.ensures c.in_ok-put_nearest.ensures in
    let nearest = subst (λ (t : Text). c.put_nearest.new.m ≡ c.put_all.new.self ++ diagnostics_of context.encoding context.uri.now (names_in t) (shown_of t) (lines_of c.args.document.now.document) c.args.at) store text in
    rw (c.in_ok-put_all-2.ensures, nearest, c.in_ok-put_all.ensures) (simp append_assoc)
