use Rattle.std.proofs.Common.{◌≡◌, length, map}
use Rattle.rv_show.specs.Origins.{mark_of, origin_of, origin_seen, source_of}
use Rattle.rv_show.proofs.LastMarks.{origin_after}
use Rattle.rv_show.proofs.origins.origin_of.Given as goal

-- the marks that are left decide
abbrev pub invariant-marks : goal.invariant-marks
invariant-marks l = origin_after (origin_seen l.origin) (map mark_of l.marks) l.line ≡ origin_of (source_of l.page) l.line

abbrev pub decreases-marks : goal.decreases-marks
decreases-marks l = length l.marks
