use Rattle.std.proofs.Common.{ap, sym, ◌∙◌}
use Rattle.rv_stmt.specs.Readings.{and_then}
use Rattle.rv_program.specs.internal.PairedHighs.{high_in}
use Rattle.rv_program.proofs.line_names.LineNamesNames.paired_high.Goals as goal

pub returns : goal.returns
returns c = c.high_in.ensures ∙ ap (λ line. and_then line (high_in c.args.self.now.highs.now)) (sym c.in_ok-line.was ∙ c.label_line.ensures)
