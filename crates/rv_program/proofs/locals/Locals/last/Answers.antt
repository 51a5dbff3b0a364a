use Rattle.std.proofs.Common.{◌≡◌, ◌<◌, true, ap, subst, ◌∙◌}
use Rattle.std.specs.Option.{is_some, unwrap_or}
use Rattle.rv_program.specs.internal.Locals.{first_above}
use Rattle.rv_program.specs.lemmas.LocalLines.{above-last}
use Rattle.rv_program.proofs.locals.Locals.last.Goals as goal

pub returns : goal.returns
returns c i up =
    let last = c.unwrap_or.ensures ∙ ap (λ o. unwrap_or o 0) (c.copied.ensures ∙ c.last.ensures.value) in
    subst (λ ls. is_some (first_above i ls) ≡ true) c.row.ensures.lines (above-last c.row.result.now i (subst (λ n. i < n) last up))
