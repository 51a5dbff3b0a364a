use Rattle.std.proofs.Common.{◌∙◌}
use Rattle.rv_report.specs.Lines.{line_of}
use Rattle.rv_diagnostics.specs.Diagnostics.{fault_diagnostic}
use Rattle.rv_diagnostics.proofs.Written.{next_faults}
use Rattle.rv_diagnostics.proofs.diagnostics.put_faults.Goals as goal

pub faults-preserved : goal.faults-preserved
faults-preserved g c =
    let written = fault_diagnostic c.args.context.now.encoding c.args.context.now.uri.now (g.N.Names.environment c.args.names.now c.args.line.now.address) (g.T.View.shown c.args.told.now) (line_of c.args.line.now) in
    next_faults written c.faults.faults.now _ c.faults.m c.put_if_found.new.m c.in-len1-up.len_at_least c.in_ok-put_if_found.ensures
    ∙ c.faults.invariant
