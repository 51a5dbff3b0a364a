use Rattle.std.proofs.Common.{◌≡◌, length}
use Rattle.std.specs.List.{flat_map}
use Rattle.rv_program.specs.internal.NameSets.{with_names, brief_of_names}
use Rattle.rv_program.specs.Uses.{names_in, expression_of, names_used}
use Rattle.rv_program.proofs.uses.brief_names.Given as goal

abbrev pub invariant-loop-operands : goal.invariant-loop-operands
invariant-loop-operands l = with_names l.names (flat_map (λ o. names_in (expression_of o.value)) l.operands) ≡ brief_of_names (names_used l.body)

abbrev pub decreases-loop-operands : goal.decreases-loop-operands
decreases-loop-operands l = length l.operands
