use Rattle.std.proofs.Common.{◌<◌, ◌*◌, ◌^◌, subst}
use Rattle.rv_manual.proofs.fields.instruction_of.Goals as goal

pub returns-in-Err-clause-only : goal.returns-in-Err-clause-only
returns-in-Err-clause-only c below o f fits is_word =
    absurd (c.in-Err.ensures (subst (λ size. c.args.number < 2 ^ (8 * size)) c.in-2.is below))
