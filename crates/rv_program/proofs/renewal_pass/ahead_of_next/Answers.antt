use Rattle.std.proofs.Common.{◌-◌, ◌∷◌, length, get_or, take, drop, arith, ap, ◌∙◌}
use Rattle.rv_program.specs.internal.LinesAhead.{first-and-others}
use Rattle.rv_program.proofs.renewal_pass.ahead_of_next.Goals as goal

pub returns-clause-later : goal.returns-clause-later
returns-clause-later c =
    let row = c.args.ahead.now in
    first-and-others row c.in-len1-up.len_at_least ∙ ap (λ line. line ∷ take (length row - 1) (drop 1 row)) c.if-line-k.false

pub returns-in_default-clause-none : goal.returns-in_default-clause-none
returns-in_default-clause-none c = λ none rest is. omega (arith, c.in_default.len_below, ap length is)

pub returns-then-line-k-clause-none : goal.returns-then-line-k-clause-none
returns-then-line-k-clause-none c = λ none rest is. c.if-line-k.true (ap (λ row. get_or row 0 0) is)
