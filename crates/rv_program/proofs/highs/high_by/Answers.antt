use Rattle.std.proofs.Common.{◌≡◌, rules, ap, sym, ◌∙◌, Ok, Some}
use Rattle.std.specs.Option.{option_map}
use Rattle.rv_stmt.specs.Readings.{and_then}
use Rattle.rv_fix.specs.Displacements.{displacement}
use Rattle.rv_program.specs.Pairs.{pcrel_high_of, high_by}
use Rattle.rv_program.proofs.highs.high_by.Goals as goal

pub returns-in_ok-address-in-Some-clause-value : goal.returns-in_ok-address-in-Some-clause-value
returns-in_ok-address-in-Some-clause-value g c =
    let here = c.args.here in
    let given = g.N.Names.environment c.args.names.now here in
    let address = c.in_ok-address-in-Some.address in
    let tree : pcrel_high_of c.args.body.now ≡ Some c.in-Some.expression.now = sym c.pcrel_high.ensures ∙ ap (option_map (λ e. e.now)) c.in-Some.is in
    let high : high_by given here (pcrel_high_of c.args.body.now) ≡ Ok (displacement here address) =
    ap (high_by given here) tree ∙ ap (λ v. and_then v (λ x. Ok (displacement here x))) (sym c.in_ok-address-in-Some.ensures.value) in
    search rules ∙ sym high
