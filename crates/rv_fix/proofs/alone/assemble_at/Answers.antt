use Rattle.std.proofs.Common.{◌≡◌, subst}
use Rattle.std.specs.Prelude.{IfOk}
use Rattle.rv_fix.specs.Alone.{code_of_body_at}
use Rattle.rv_fix.proofs.alone.assemble_at.Goals as goal

pub returns-clause-code : goal.returns-clause-code
returns-clause-code c =
    subst (λ s. IfOk c.code_without_names.result (λ x. x ≡ code_of_body_at c.args.address s.body)) c.in_ok-stmt.ensures.statement c.code_without_names.ensures.code
