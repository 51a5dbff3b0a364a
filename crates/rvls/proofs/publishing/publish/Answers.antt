use Rattle.std.proofs.Common.{◌≡◌, ◌++◌, List, ℕ, OnOk, subst, ◌∙◌}
use Rattle.rv_doc.specs.Positions.{lines_of}
use Rattle.rv_program.specs.Text.{Text}
use Rattle.rv_store.specs.Shown.{shown_of}
use Rattle.rv_diagnostics.specs.Published.{diagnostics_of, publication}
use Rattle.rvls.specs.DocumentDiagnostics.{names_in}
use Rattle.rvls.proofs.publishing.publish.Goals as goal

pub returns : goal.returns
returns c =
    let context = c.args.context.now in
    let told = c.of-told.result.store.now in
    let store = c.of-told.ensures ∙ c.store.ensures in
    let text = subst (λ (d : List ℕ). OnOk c.publish_lines.result (c.publish_lines.new.out.items ≡ c.args.out.now.items ++ publication context.uri.now c.args.version (diagnostics_of context.encoding context.uri.now (names_in told) (shown_of told) (lines_of d) c.args.at))) c.text-text.ensures c.publish_lines.ensures in
    subst (λ (t : Text). OnOk c.publish_lines.result (c.publish_lines.new.out.items ≡ c.args.out.now.items ++ publication context.uri.now c.args.version (diagnostics_of context.encoding context.uri.now (names_in t) (shown_of t) (lines_of c.args.document.now.document) c.args.at))) store text
