use Rattle.std.proofs.Common.{◌≡◌, ◌++◌, length}
use Rattle.std.specs.List.{flat_map}
use Rattle.rv_show.specs.Origins.{source_of}
use Rattle.rv_report.specs.Lines.{line_of}
use Rattle.rv_report.specs.Reports.{report_of}
use Rattle.rv_files.specs.OddAddresses.{one_reported}
use Rattle.rv_files.proofs.reporting.push_faults.Given as goal

-- the reports so far, and those of the faults that are left
abbrev pub invariant-faults : goal.invariant-faults
invariant-faults g l =
    l.out.items ++ flat_map (λ r. report_of l.page.style (source_of l.page) (g.N.Names.environment l.names l.line.address) (g.V.View.shown l.view) (line_of l.line) r.more r.fault) (flat_map one_reported l.faults)
    ≡ l.fn.out.items ++ flat_map (λ r. report_of l.page.style (source_of l.page) (g.N.Names.environment l.names l.line.address) (g.V.View.shown l.view) (line_of l.line) r.more r.fault) (flat_map one_reported l.fn.faults)

abbrev pub decreases-faults : goal.decreases-faults
decreases-faults g l = length l.faults
