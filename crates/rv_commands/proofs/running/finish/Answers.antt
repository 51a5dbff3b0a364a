use Rattle.std.proofs.Common.{◌≡◌, length, arith}
use Rattle.std.proofs.lemmas.Bool.Decides.{nat_tests}
use Rattle.rv_commands.proofs.OutcomeLemmas.{takes_none, finishes}
use Rattle.rv_commands.proofs.running.finish.Goals as goal

pub returns-then-is_empty-clause-text : goal.returns-then-is_empty-clause-text
returns-then-is_empty-clause-text g c = takes_none _ _ _ (grind (arith, nat_tests, c.if-is_empty.ensures))

pub returns-clause-text : goal.returns-clause-text
returns-clause-text g c =
    let some : length c.args.piece.now ≡ 0 → ⊥ = grind (arith, nat_tests, c.if-is_empty.ensures) in
    finishes c.answer_alone.result _ c.answer_alone.new.store _ _ _ some c.answer_alone.ensures.text
