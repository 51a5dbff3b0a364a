use Rattle.std.proofs.Common.{◌≡◌, ◌-◌, [], map, take, true, if◌then◌else◌, arith}
use Rattle.std.specs.List.{concat}
use Rattle.std.proofs.lemmas.Result.{err_from_is_err_and}
use Rattle.rv_text.specs.StreamLaws.{prefix_first, writes_then}
use Rattle.rv_show.specs.Origins.{source_of}
use Rattle.rv_report.specs.Lines.{words_of}
use Rattle.rv_files.specs.TextReports.{all_reports, all_warnings, report_count}
use Rattle.rv_files.proofs.FirstReports.{all_counted, first_of_both, is_on}
use Rattle.rv_files.proofs.reporting.write_first.Goals as goal

pub returns-in_err-write_lines-clause-text : goal.returns-in_err-write_lines-clause-text
returns-in_err-write_lines-clause-text g c =
    let p = err_from_is_err_and c.from_residual.result c.from_residual.ensures.1 in
    let store = c.args.store.now in
    let style = c.args.page.now.style in
    let source = source_of c.args.page.now in
    let words = words_of c.args.words in
    let most = c.args.wanted.most in
    let faults = all_reports style source store words in
    let warnings = if c.args.wanted.warnings then all_warnings style source store else [] in
    let whole = first_of_both most (report_count store) faults warnings (all_counted style source store words) in
    rw p.1 (prefix_first _ _ (concat (take most faults)) (concat (take (most - report_count store) warnings)) _ whole c.in_err-write_lines.ensures.text)

pub returns-clause-text : goal.returns-clause-text
returns-clause-text g c =
    let store = c.args.store.now in
    let style = c.args.page.now.style in
    let source = source_of c.args.page.now in
    let words = words_of c.args.words in
    let most = c.args.wanted.most in
    let faults = all_reports style source store words in
    let warnings = all_warnings style source store in
    let whole = first_of_both most (report_count store) faults warnings (all_counted style source store words) in
    let on : c.args.wanted.warnings ≡ true = is_on c.args.wanted.warnings c.if-not-wanted.false in
    let left : c.saturating_sub-left.result ≡ most - report_count store = omega (arith, c.saturating_sub-left.ensures, c.requires.reported) in
    let text = rw left at c.write_warnings.ensures.text in
    rw (on, whole) (writes_then _ _ _ _ _ _ c.in_ok-write_lines.ensures.text text)
