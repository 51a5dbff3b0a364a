use Rattle.std.proofs.Common.{◌≡◌, length}
use Rattle.std.specs.List.{list_any}
use Rattle.rv_fix.specs.Alone.{value_uses_names}
use Rattle.rv_fix.proofs.names_in.operands_use_names.Given as goal

abbrev pub invariant-loop-operands : goal.invariant-loop-operands
invariant-loop-operands l = list_any (λ o. value_uses_names o.value) l.operands ≡ list_any (λ o. value_uses_names o.value) l.initial.operands

abbrev pub decreases-loop-operands : goal.decreases-loop-operands
decreases-loop-operands l = length l.operands
