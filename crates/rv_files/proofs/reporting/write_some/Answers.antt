use Rattle.std.proofs.Common.{◌≡◌, ◌+◌, map, take, min, arith, refl, ap, ◌∙◌}
use Rattle.std.proofs.lemmas.Result.{err_from_is_err_and}
use Rattle.rv_text.specs.StreamLaws.{prefix_first, prefix_none, writes_then}
use Rattle.rv_show.specs.Totals.{last_rows}
use Rattle.rv_store.specs.Shown.{shown_of}
use Rattle.rv_files.specs.Symbols.{searched, symbols_of}
use Rattle.rv_files.specs.TextReports.{asked_warnings, fault_count, report_count, text_reports}
use Rattle.rv_files.specs.Words.{unknown_words}
use Rattle.rv_files.proofs.OddAddresses.{no_more_reports}
use Rattle.rv_files.proofs.reporting.write_some.Goals as goal

pub overflow_add-reports : goal.overflow_add-reports
overflow_add-reports g c =
    omega (arith, no_more_reports c.args.store.now, c.requires.reported, c.requires.faults, c.requires.few)

pub returns-in_err-names-clause-text : goal.returns-in_err-names-clause-text
returns-in_err-names-clause-text g c =
    let p = err_from_is_err_and c.from_residual-in_err-names.result c.from_residual-in_err-names.ensures.1 in
    rw p.1 (prefix_none _ _)

pub returns-in_err-write_first-clause-text : goal.returns-in_err-write_first-clause-text
unfolding text_reports
returns-in_err-write_first-clause-text g c =
    let p = err_from_is_err_and c.from_residual-in_err-write_first.result c.from_residual-in_err-write_first.ensures.1 in
    let store = c.args.store.now in
    let wanted = c.args.wanted in
    let reports = min (report_count store) wanted.most in
    let shown : c.min.result ≡ reports = omega (arith, c.min.ensures, c.requires.reported) in
    let count : c.searched-searched.result ≡ searched reports = c.searched-searched.ensures ∙ ap searched shown in
    let first = ap (λ l. take c.searched-searched.result l) c.as_slice.ensures.value ∙ c.in_ok-symbols.ensures.first ∙ ap (λ n. take n (symbols_of (shown_of store))) count in
    let named : map (λ s. s.now) c.as_slice-2.result.now ≡ map (λ s. s.name) (take (searched reports) (symbols_of (shown_of store))) =
    ap (map (λ s. s.now)) c.as_slice-2.ensures.value ∙ c.in_ok-names.ensures ∙ ap (map (λ s. s.name)) first in
    let unknown : c.as_slice-3.result.now ≡ take (searched reports) (unknown_words (shown_of store)) =
    c.as_slice-3.ensures.value ∙ c.in_ok-unknown.ensures ∙ ap (λ n. take n (unknown_words (shown_of store))) count in
    let lost = rw (named, unknown) at c.in_err-write_first.ensures.text in
    rw p.1 (prefix_first _ _ _ (last_rows c.args.page.now.file.now (fault_count store) (asked_warnings store wanted.warnings) (report_count store + asked_warnings store wanted.warnings) wanted.most) _ refl lost)

pub returns-clause-text : goal.returns-clause-text
unfolding text_reports
returns-clause-text g c =
    let store = c.args.store.now in
    let wanted = c.args.wanted in
    let reports = min (report_count store) wanted.most in
    let shown : c.min.result ≡ reports = omega (arith, c.min.ensures, c.requires.reported) in
    let count : c.searched-searched.result ≡ searched reports = c.searched-searched.ensures ∙ ap searched shown in
    let first = ap (λ l. take c.searched-searched.result l) c.as_slice.ensures.value ∙ c.in_ok-symbols.ensures.first ∙ ap (λ n. take n (symbols_of (shown_of store))) count in
    let named : map (λ s. s.now) c.as_slice-2.result.now ≡ map (λ s. s.name) (take (searched reports) (symbols_of (shown_of store))) =
    ap (map (λ s. s.now)) c.as_slice-2.ensures.value ∙ c.in_ok-names.ensures ∙ ap (map (λ s. s.name)) first in
    let unknown : c.as_slice-3.result.now ≡ take (searched reports) (unknown_words (shown_of store)) =
    c.as_slice-3.ensures.value ∙ c.in_ok-unknown.ensures ∙ ap (λ n. take n (unknown_words (shown_of store))) count in
    let written = rw (named, unknown) at c.in_ok-write_first.ensures.text in
    let last = rw (c.requires.reported, c.requires.faults, c.requires.warnings) at c.write_count.ensures.text in
    writes_then _ _ _ _ _ _ written last
