use Rattle.std.proofs.Common.{◌≡◌, ◌∙◌, Some, ap, sym, subst}
use Rattle.std.specs.Prelude.{option_map, IsSome, IfSome}
use Rattle.rv_ops.specs.Csrs.{csr_name, csr_names, csr_named}
use Rattle.rv_ops.proofs.Naming.{mapped_is_some, mapped_if_some}
use Rattle.rv_ops.specs.NameLaws.{csr_named-name, csr_name-only}
use Rattle.rv_ops.proofs.names.csr_name.Goals as goal

pub returns-clause-value : goal.returns-clause-value
unfolding csr_name csr_names
returns-clause-value c =
    let e : option_map (λ name. name.now) c.first_name.result ≡ csr_name c.number.result = c.first_name.ensures in
    e ∙ ap csr_name c.number.ensures.value

pub returns-clause-read : goal.returns-clause-read
returns-clause-read c =
    mapped_if_some (λ name. name.now) c.first_name.result (λ text. csr_named text ≡ Some c.args.csr)
    (subst (λ r. IfSome r (λ text. csr_named text ≡ Some c.args.csr)) (sym (returns-clause-value c)) (csr_named-name c.args.csr))

pub returns-clause-only : goal.returns-clause-only
returns-clause-only c = λ text h.
    mapped_is_some (λ name. name.now) c.first_name.result
    (subst IsSome (sym (returns-clause-value c)) (csr_name-only c.args.csr text h))
