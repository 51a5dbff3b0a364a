use Rattle.std.proofs.Common.{arith}
use Rattle.std.proofs.lemmas.Result.{IfOk-weaker, on_err_weaker}
use Rattle.tree_example.specs.Counted.{limited}
use Rattle.tree_example.proofs.CountedRuns.{counted_run, counted_stop}
use Rattle.tree_example.proofs.counted.cut_blocks.Goals as goal

pub returns-clause-items : goal.returns-clause-items
returns-clause-items c =
    IfOk-weaker c.rewritten.result _ _ (λ t r. (counted_run _ (λ p b x q. ⊥) _ _ limited (λ p. p.count.now) (λ p. p.limit) (λ p. p.count.ghost_name) (λ p q b x y s. s) (λ p q b x r. r) r).0) c.rewritten.ensures.runs

pub returns-clause-counted : goal.returns-clause-counted
returns-clause-counted c =
    IfOk-weaker c.rewritten.result _ _
    (λ t r. let run = counted_run _ (λ p b x q. ⊥) _ _ limited (λ p. p.count.now) (λ p. p.limit) (λ p. p.count.ghost_name) (λ p q b x y s. s) (λ p q b x r. r) r in omega (arith, run.1, run.2))
    c.rewritten.ensures.runs

pub returns-clause-stopped : goal.returns-clause-stopped
returns-clause-stopped c =
    on_err_weaker c.rewritten.result
    (λ s. let stop = counted_stop _ (λ p b x q. ⊥) _ _ limited (λ p. p.count.now) (λ p. p.limit) (λ p. p.count.ghost_name) (λ p q b x y s. s) (λ p q b x r. r) s in omega (arith, stop.1, stop.0))
    c.rewritten.ensures.stops
