use Rattle.std.proofs.Common.{◌≡◌, arith, ap, sym, ◌∙◌}
use Rattle.rv_text.specs.Streams.{after}
use Rattle.rv_text.specs.StreamLaws.{after_none}
use Rattle.rv_show.specs.Origins.{source_of}
use Rattle.rv_files.specs.TextReports.{asked_warnings, fault_count}
use Rattle.rv_files.proofs.FirstReports.{none_reported}
use Rattle.rv_files.proofs.reporting.write_reports.Goals as goal

pub returns-then-counts-eq0-clause-text : goal.returns-then-counts-eq0-clause-text
returns-then-counts-eq0-clause-text g c =
    let store = c.args.store.now in
    let wanted = c.args.wanted in
    let no_fault : fault_count store ≡ 0 = omega (arith, c.fault_counts-counted.ensures.faults, c.if-counts-eq0.true) in
    let no_warning : asked_warnings store wanted.warnings ≡ 0 = omega (arith, c.count_warnings.ensures.value, c.if-counts-eq0.true) in
    let nothing = none_reported c.args.page.now.style (source_of c.args.page.now) store wanted.most wanted.warnings no_fault no_warning in
    sym (ap (after (g.W.Sink.taken c.args.sink.now)) nothing ∙ after_none (g.W.Sink.taken c.args.sink.now))
