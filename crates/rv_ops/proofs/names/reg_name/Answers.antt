use Rattle.std.proofs.Common.{◌≡◌, ◌<◌, ◌∙◌, ap, subst}
use Rattle.rv_ops.specs.Registers.{register_name, register_named}
use Rattle.rv_ops.specs.NameLaws.{register_named-name}
use Rattle.rv_ops.proofs.names.reg_name.Goals as goal

pub returns-clause-value : goal.returns-clause-value
unfolding register_name
returns-clause-value c =
    let e : c.name_at.result.now ≡ register_name c.from.result = c.name_at.ensures in
    e ∙ ap register_name (c.from.ensures ∙ c.number.ensures.value)

pub returns-clause-read : goal.returns-clause-read
returns-clause-read c =
    ap (λ t. register_named t) (returns-clause-value c)
    ∙ register_named-name c.args.register (subst (λ n. n < 32) c.number.ensures.value c.number.ensures.below)
