use Rattle.std.proofs.Common.{◌≡◌, ◌++◌, map, OnOk, ap, sym, subst, ◌∙◌}
use Rattle.std.specs.List.{flat_map}
use Rattle.rv_list.specs.Shown.{ShownLine, shown_line}
use Rattle.rv_list.specs.Faults.{found}
use Rattle.rv_report.specs.Lines.{words_of}
use Rattle.rv_diagnostics.specs.Published.{line_diagnostic}
use Rattle.rv_diagnostics.proofs.ShownRows.{line_written}
use Rattle.rv_diagnostics.proofs.publishing.put_line.Goals as goal

pub returns : goal.returns
returns g c =
    let shown = g.T.View.shown c.args.told.now in
    let given = g.T.Told.environments c.args.told.now in
    let context = c.args.context.now in
    let words = words_of c.args.words in
    let line = shown_line c.args.line.now in
    let bytes = c.text.ensures.value ∙ sym (ap (λ s. s.text) c.requires.line) in
    let rows = line_written context.encoding context.uri.now given shown words c.args.number line _ _ _ (found c.args.faults.now) c.given-names.ensures bytes c.in-Ok.ensures.values in
    subst (λ t. OnOk c.put_faults.result (c.put_faults.new.m ≡ c.args.m.now ++ t))
    (rows ∙ ap (λ (s : ShownLine). flat_map (line_diagnostic context.encoding context.uri.now given shown words c.args.number s) (found c.args.faults.now)) c.requires.line)
    c.put_faults.ensures
