use Rattle.std.proofs.Common.{◌≡◌, true, false, sym, ◌∙◌, rules}
use Rattle.std.specs.Prelude.{codes, bytes_eq}
use Rattle.rv_commands.proofs.ChangeLemmas.{insert_asked}
use Rattle.rv_commands.proofs.command.read_change.Goals as goal

pub returns-then-eq-2 : goal.returns-then-eq-2
returns-then-eq-2 c =
    let other : bytes_eq c.args.word.now (codes "a") ≡ false = search rules in
    let is : bytes_eq c.args.word.now (codes "i") ≡ true = search rules in
    insert_asked c.args.word.now c.args.rest.now _ _ _ other is c.split_word.ensures.word c.split_word.ensures.rest (sym c.read_place.ensures ∙ c.in_ok-place.was)
