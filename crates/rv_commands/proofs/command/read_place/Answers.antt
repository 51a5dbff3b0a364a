use Rattle.std.proofs.Common.{arith, sym, ◌∙◌}
use Rattle.std.proofs.lemmas.Grind.{common_steps}
use Rattle.rv_commands.proofs.PlaceLemmas.{place_spelled}
use Rattle.rv_commands.proofs.command.read_place.Goals as goal

pub returns : goal.returns
returns c =
    let is = place_spelled c.args.slice.now c.in_ok-place.place (omega arith) (sym c.digits.ensures ∙ c.in_ok-place.was) in
    rw is.3 (grind (arith, common_steps, is.1, is.2, c.try_from.ensures, c.ok.ensures.value))
