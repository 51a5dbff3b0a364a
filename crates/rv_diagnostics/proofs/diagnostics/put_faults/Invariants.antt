use Rattle.std.proofs.Common.{◌≡◌, ◌++◌, length}
use Rattle.std.specs.List.{flat_map}
use Rattle.rv_list.specs.Faults.{found}
use Rattle.rv_report.specs.Lines.{line_of}
use Rattle.rv_diagnostics.specs.Diagnostics.{fault_diagnostic}
use Rattle.rv_diagnostics.proofs.diagnostics.put_faults.Given as goal

-- what is written so far, and the faults that are left
abbrev pub invariant-faults : goal.invariant-faults
invariant-faults g l =
    l.m ++ flat_map (fault_diagnostic l.context.encoding l.context.uri.now (g.N.Names.environment l.names l.line.address) (g.T.View.shown l.told) (line_of l.line)) (found l.faults)
    ≡ l.fn.m ++ flat_map (fault_diagnostic l.context.encoding l.context.uri.now (g.N.Names.environment l.names l.line.address) (g.T.View.shown l.told) (line_of l.line)) (found l.fn.faults)

abbrev pub decreases-faults : goal.decreases-faults
decreases-faults g l = length l.faults
