use Rattle.std.proofs.Common.{◌∙◌, arith}
use Rattle.rv_show.specs.Origins.{origin_seen}
use Rattle.rv_show.proofs.LastMarks.{next_lent}
use Rattle.rv_show.proofs.origins.origin_of.Goals as goal

pub marks-preserved : goal.marks-preserved
marks-preserved c = next_lent (origin_seen c.marks.origin) c.marks.marks.now c.args.line (origin_seen c.origin_by-origin.result) _ c.in-len1-up.len_at_least c.origin_by-origin.ensures (omega (arith, c.if-mark-line.false)) ∙ c.marks.invariant
