use Rattle.std.proofs.Common.{◌≡◌}
use Rattle.rv_layout.proofs.AdvanceRows.{both_to}
use Rattle.rv_layout.proofs.effect.both.Given as goal

abbrev pub invariant-loop-section : goal.invariant-loop-section
invariant-loop-section l = l.out ≡ both_to l.section l.first l.next
