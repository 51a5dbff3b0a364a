use Rattle.rv_store.specs.internal.Forgetting.{AreRemembered}
use Rattle.rv_store.proofs.forgetting.Remembered.of.Given as goal

abbrev pub invariant-loop-number : goal.invariant-loop-number
invariant-loop-number l = record { remembered : AreRemembered l.names l.survey l.number l.remembered }
