use Rattle.std.proofs.Common.{arith, ◌==◌}
use Rattle.std.proofs.lemmas.List.Splits.{length-slice_split}
use Rattle.rv_doc.proofs.lines.line_count.Goals as goal

pub returns-clause-value : goal.returns-clause-value
returns-clause-value c = omega (arith, length-slice_split (λ b. b == 10) c.args.text.now, c.line_breaks.ensures.value)
