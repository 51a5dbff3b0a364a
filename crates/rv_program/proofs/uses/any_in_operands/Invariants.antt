use Rattle.std.proofs.Common.{◌≡◌, length}
use Rattle.std.specs.List.{list_any, flat_map}
use Rattle.rv_program.specs.Uses.{names_in, expression_of}
use Rattle.rv_program.proofs.uses.any_in_operands.Given as goal

abbrev pub invariant-loop-operands : goal.invariant-loop-operands
invariant-loop-operands g l = list_any (g.T.NameTest.test l.names) (flat_map (λ o. names_in (expression_of o.value)) l.operands) ≡ list_any (g.T.NameTest.test l.names) (flat_map (λ o. names_in (expression_of o.value)) l.initial.operands)

abbrev pub decreases-loop-operands : goal.decreases-loop-operands
decreases-loop-operands g l = length l.operands
