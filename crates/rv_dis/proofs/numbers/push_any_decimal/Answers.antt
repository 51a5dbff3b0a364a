use Rattle.std.proofs.Common.{◌++◌, ◌∙◌, ap}
use Rattle.std.specs.Fmt.{signed_decimal}
use Rattle.std.specs.Int.{w32}
use Rattle.std.proofs.lemmas.Int.{to_z-of_z}
use Rattle.rv_dis.proofs.numbers.push_any_decimal.Goals as goal

pub returns : goal.returns
returns c =
    let text = c.format.ensures.text ∙ ap signed_decimal (to_z-of_z w32 c.args.n c.ranges.n) in
    c.push_str.ensures ∙ ap (λ t. c.args.out.now ++ t) text
