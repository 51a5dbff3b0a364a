use Rattle.std.proofs.Common.{arith, ap, ◌∙◌, ◌≡◌, sym, set}
use Rattle.rv_layout.specs.Sections.{sections}
use Rattle.rv_layout.proofs.AdvanceRows.{advance_in_row, both_to, both_to-zero, both_to-more, both_to-all}
use Rattle.rv_layout.proofs.effect.both.Goals as goal

pub loop-section-init : goal.loop-section-init
loop-section-init c = sym (both_to-zero c.args.first.now c.args.next.now)

pub then-requires-clause-first : goal.then-requires-clause-first
then-requires-clause-first c = advance_in_row c.args.first.now c.loop-section.section _ (omega (arith, c.loop-section-test.true, c.told-first)) c.requires.first_row

pub then-requires-clause-second : goal.then-requires-clause-second
then-requires-clause-second c = advance_in_row c.args.next.now c.loop-section.section _ (omega (arith, c.loop-section-test.true, c.told-next)) c.requires.next_row

pub loop-section-preserved : goal.loop-section-preserved
loop-section-preserved c =
    ap (λ xs. set xs c.loop-section.section c.then.result) c.loop-section.invariant
    ∙ ap (set (both_to c.loop-section.section c.args.first.now c.args.next.now) c.loop-section.section) c.then.ensures
    ∙ both_to-more c.loop-section.section c.args.first.now c.args.next.now _ (c.told-first ∙ sym c.told-next)

pub returns : goal.returns
returns c = let e : c.loop-section.section ≡ sections = omega (arith, c.loop-section.auto.section-end, c.loop-section-test.false) in
    c.loop-section.invariant ∙ both_to-all c.loop-section.section c.args.first.now c.args.next.now (c.told-first ∙ sym e) (c.told-next ∙ sym e)
