use Rattle.std.proofs.Common.{◌-◌, length, slice_get, ap, ◌∙◌}
use Rattle.rv_program.specs.lemmas.LocalLines.{above-parted, up_to-parted}
use Rattle.rv_program.proofs.locals.line_among.Goals as goal

pub returns-in-Back : goal.returns-in-Back
returns-in-Back c = λ line parted.
    let e = up_to-parted line c.args.lines.now c.args.count c.requires parted in
    rw c.in-Back.is (c.copied.ensures ∙ c.last.ensures.value ∙ ap (λ ls. slice_get ls (length ls - 1)) c.split_at.ensures.front ∙ e)

pub returns-in-Forward : goal.returns-in-Forward
returns-in-Forward c = λ line parted.
    let e = above-parted line c.args.lines.now c.args.count c.requires parted in
    rw c.in-Forward.is (c.copied-in-Forward.ensures ∙ c.first.ensures.value ∙ ap (λ ls. slice_get ls 0) c.split_at.ensures.back ∙ e)
