use Rattle.std.proofs.Common.{◌≡◌, ◌+◌, ◌≤◌, ◌==◌, length}
use Rattle.std.specs.List.{count_by}
use Rattle.rv_doc.proofs.lines.breaks_in.Given as goal

abbrev pub invariant-bytes : goal.invariant-bytes
invariant-bytes l = record {
  value : l.breaks + count_by (λ b. b == 10) l.rest ≡ count_by (λ b. b == 10) l.block;
  within : l.breaks + length l.rest ≤ length l.block;
}

abbrev pub decreases-bytes : goal.decreases-bytes
decreases-bytes l = length l.rest
