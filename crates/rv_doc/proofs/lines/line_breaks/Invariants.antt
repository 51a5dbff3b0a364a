use Rattle.std.proofs.Common.{◌≡◌, ◌+◌, ◌≤◌, ◌==◌, length}
use Rattle.std.specs.List.{count_by}
use Rattle.rv_doc.proofs.lines.line_breaks.Given as goal

abbrev pub invariant-pieces : goal.invariant-pieces
invariant-pieces l = record {
  value : l.breaks + count_by (λ b. b == 10) l.rest ≡ count_by (λ b. b == 10) l.text;
  within : l.breaks + length l.rest ≤ length l.text;
}

abbrev pub decreases-pieces : goal.decreases-pieces
decreases-pieces l = length l.rest
