use Rattle.std.proofs.Common.{◌<◌, subst}
use Rattle.rv_code.proofs.FittingFields.{register_fields-fit}
use Rattle.rv_code.proofs.instruction.Ins.register.Goals as goal

pub new-requires : goal.new-requires
new-requires c =
    register_fields-fit _ _ _ _ c.requires
    (subst (λ n. n < 32) c.number.ensures.value c.number.ensures.below)
    (subst (λ n. n < 32) c.number-2.ensures.value c.number-2.ensures.below)
    (subst (λ n. n < 32) c.number-3.ensures.value c.number-3.ensures.below)

pub returns : goal.returns
returns c = c.new.ensures
