use Rattle.std.proofs.Common.{◌≡◌, ◌++◌, length, map, take, OnOk, ap, sym, subst, ◌∙◌}
use Rattle.std.specs.List.{concat}
use Rattle.rv_list.specs.Shown.{shown_line}
use Rattle.rv_show.specs.Origins.{source_of}
use Rattle.rv_report.specs.Lines.{words_of}
use Rattle.rv_files.specs.TextReports.{line_reports}
use Rattle.rv_files.proofs.Reports.{told_of_line, bytes_of_line, line_reports-are}
use Rattle.rv_files.proofs.reporting.push_line.Goals as goal

pub returns : goal.returns
returns c =
    let store = c.args.store.now in
    let style = c.args.page.now.style in
    let source = source_of c.args.page.now in
    let words = words_of c.args.words in
    let shown = shown_line c.args.line.now in
    let names = told_of_line store.lines c.args.number _ _ c.in-Some-Some.ensures in
    let bytes = bytes_of_line store.lines c.args.number c.in-Some-Some.text.now c.in-Some-Some.ensures'.value ∙ sym (ap (λ s. s.text) c.requires.line) in
    let are = line_reports-are style source store words c.args.number (length c.args.faults.now) shown _ _ _ c.args.faults.now names bytes c.in-Ok.ensures.values c.requires.faults in
    subst (λ t. OnOk c.push_faults.result (c.push_faults.new.out.items ≡ c.args.out.now.items ++ t))
    (are ∙ ap (λ s. concat (take (length c.args.faults.now) (line_reports style source store words c.args.number s))) c.requires.line)
    c.push_faults.ensures
