use Rattle.std.proofs.Common.{sym, ◌∙◌, subst, IfSome}
use Rattle.rv_ops.specs.Table.{operation_names, operation_named, IsNameOfOperation}
use Rattle.rv_ops.specs.NameLaws.{operation_named-found, operation_named-only}
use Rattle.rv_ops.proofs.names.op_by_name.Goals as goal

pub returns-clause-value : goal.returns-clause-value
unfolding operation_named operation_names
returns-clause-value c = c.first_operation.ensures

pub returns-clause-found : goal.returns-clause-found
unfolding operation_named operation_names
returns-clause-found c =
    subst (λ r. IfSome r (λ o. IsNameOfOperation o c.args.name.now)) (sym c.first_operation.ensures) (operation_named-found c.args.name.now)

pub returns-clause-only : goal.returns-clause-only
unfolding operation_named operation_names
returns-clause-only c = λ o e. c.first_operation.ensures ∙ operation_named-only c.args.name.now o e
