use Rattle.std.proofs.Common.{◌<◌, ◌∙◌, sym, subst}
use Rattle.std.specs.Option.{IfSome}
use Rattle.std.proofs.lemmas.Option.{IfSome_then}
use Rattle.rv_ops.specs.Registers.{register_names, register_named, IsNameOfRegister}
use Rattle.rv_ops.proofs.Naming.{made_number}
use Rattle.rv_ops.specs.NameLaws.{register_named-found, register_named-only}
use Rattle.rv_ops.proofs.names.reg_by_name.Goals as goal

pub returns-clause-value : goal.returns-clause-value
unfolding register_named register_names
returns-clause-value c =
    let text = c.args.name.now in
    let below = IfSome_then (register_named text) (register_named-found text) (λ n f. f.0) in
    made_number 32 c.first_named.result c.and_then.result (subst (λ r. IfSome r (λ n. n < 32)) (sym c.first_named.ensures) below) c.and_then.ensures
    ∙ c.first_named.ensures

pub returns-clause-below : goal.returns-clause-below
returns-clause-below c =
    let text = c.args.name.now in
    subst (λ r. IfSome r (λ n. n < 32)) (sym (returns-clause-value c))
    (IfSome_then (register_named text) (register_named-found text) (λ n f. f.0))

pub returns-clause-found : goal.returns-clause-found
returns-clause-found c =
    let text = c.args.name.now in
    subst (λ r. IfSome r (λ n. IsNameOfRegister n text)) (sym (returns-clause-value c))
    (IfSome_then (register_named text) (register_named-found text) (λ n f. f.1))

pub returns-clause-only : goal.returns-clause-only
returns-clause-only c = λ n h. returns-clause-value c ∙ register_named-only c.args.name.now n h
