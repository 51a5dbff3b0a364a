use Rattle.std.proofs.Common.{arith, ◌-◌, drop}
use Rattle.std.proofs.lemmas.List.Sorted.{IsNonDecreasingBy-take, IsNonDecreasingBy-drop}
use Rattle.rv_program.specs.lemmas.LocalLines.{parted-between}
use Rattle.rv_program.proofs.locals.count_near.Goals as goal

pub returns-then-are_above-2-clause-parted : goal.returns-then-are_above-2-clause-parted
returns-then-are_above-2-clause-parted c =
    parted-between c.args.line c.saturating_sub-low.result c.min-high.result c.count_up_to.result c.args.lines.now (omega (arith, c.saturating_sub-low.ensures, c.min-high.ensures)) (omega (arith, c.min-high.ensures))
    (c.are_up_to-2.ensures c.if-are_up_to-2.true) (c.are_above-then-are_up_to-2.ensures c.if-are_above-2.true) (omega (arith, c.count_up_to.ensures.bound)) c.count_up_to.ensures.parted

pub count_up_to-requires : goal.count_up_to-requires
count_up_to-requires c =
    let low = c.saturating_sub-low.result in
    IsNonDecreasingBy-take (λ l. l) (c.min-high.result - low) (drop low c.args.lines.now) (IsNonDecreasingBy-drop (λ l. l) low c.args.lines.now c.requires)
