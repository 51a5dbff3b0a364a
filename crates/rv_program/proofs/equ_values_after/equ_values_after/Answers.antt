use Rattle.std.proofs.Common.{ap, ◌≡◌, ◌+◌, length, arith, refl, subst, ◌∙◌}
use Rattle.rv_program.specs.internal.KeptEqus.{AreValuesAfter}
use Rattle.rv_program.specs.internal.TextRows.{program_in}
use Rattle.rv_program.specs.internal.Work.{equ_operands}
use Rattle.rv_program.specs.lemmas.ShapeWork.{operands-next, operands-more}
use Rattle.rv_program.proofs.KeptEqus.{values-past, values-all}
use Rattle.rv_program.proofs.equ_values_after.equ_values_after.Goals as goal

pub loop-i-init : goal.loop-i-init
loop-i-init g c =
    let before = c.args.before.now in
    let text = c.args.text.now in
    let past = c.next_of_kind-i.ensures in
    let i = c.next_of_kind-i.result in
    let passed = past.passed text.lines.now c.requires.searched in
    let start = rw c.in-Some.is at c.in_ok-row.ensures in
    record {
      within = past.within;
      values = values-past before text c.requires.before c.requires.rows c.requires.after 0 i c.in-Some.row.items c.in-Some.differing past.up passed (rw (c.in-Some.row-is, c.in-Some.differing-is) start);
      valued = omega arith;
      valued_within = omega arith;
      operands = omega arith;
      parsed = refl;
      encoded = refl;
    }

pub loop-i-preserved : goal.loop-i-preserved
loop-i-preserved g c =
    let text = c.args.text.now in
    let program = program_in text in
    let before = c.loop-i.invariant in
    let settled = c.settle_after.ensures in
    let past = c.next_of_kind-i-in-loop-i.ensures in
    let i = c.loop-i.i in
    let next = c.next_of_kind-i-in-loop-i.result in
    let passed = past.passed text.lines.now c.requires.searched in
    let more = operands-more equ_operands program (i + 1) next past.up in
    record {
      within = past.within;
      values = values-past c.args.before.now text c.requires.before c.requires.rows c.requires.after (i + 1) next c.settle_after.new.row.items c.settle_after.new.differing past.up passed settled.values;
      valued = omega (arith, before.valued, settled.valued);
      valued_within = omega (arith, before.valued_within, settled.valued_within, past.up);
      operands = omega (arith, before.operands, settled.operands, operands-next equ_operands program i, more);
      parsed = settled.parsed ∙ before.parsed;
      encoded = settled.encoded ∙ before.encoded;
    }

pub returns-clause-values : goal.returns-clause-values
returns-clause-values g c =
    let before = c.args.before.now in
    let text = c.args.text.now in
    let end : c.loop-i.i ≡ length text.lines.now = omega (arith, c.loop-i-test.false, c.loop-i.invariant.within, ap length c.requires.searched) in
    values-all before text c.requires.before c.requires.rows c.requires.after c.loop-i.row.items c.loop-i.differing
    (subst (λ k. AreValuesAfter before text k c.loop-i.row.items c.loop-i.differing) end c.loop-i.invariant.values)
