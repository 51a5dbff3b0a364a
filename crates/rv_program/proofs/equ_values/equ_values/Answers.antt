use Rattle.std.proofs.lemmas.Grind.{common_steps}
use Rattle.std.proofs.Common.{◌≡◌, ◌+◌, length, replicate, Err, rules, arith, ap, refl, subst, ◌∙◌, ◌≤◌}
use Rattle.std.proofs.lemmas.List.{length-replicate}
use Rattle.rv_expr.specs.declared.faults.ValueFault.TheVariants.{LaterEqu}
use Rattle.rv_program.specs.internal.TextRows.{program_in, AreEquValuesIn}
use Rattle.rv_program.specs.internal.Work.{equ_operands}
use Rattle.rv_program.specs.lemmas.EquLaws.{equ_values-none, equ_values-past}
use Rattle.rv_program.specs.lemmas.ShapeWork.{operands-next, operands-more}
use Rattle.rv_program.proofs.equ_values.equ_values.Goals as goal

pub loop-i-init : goal.loop-i-init
loop-i-init g c =
    let text = c.args.text.now in
    let names = text.names.now in
    let none : c.in_ok-row.row.items ≡ replicate (length names) (Err LaterEqu) = search rules in
    let past = c.next_of_kind-i.ensures in
    let i = c.next_of_kind-i.result in
    let passed = past.passed text.lines.now c.requires.searched in
    record {
      within = past.within;
      values = rw none (equ_values-past text.base (program_in text) 0 i names (replicate (length names) (Err LaterEqu)) past.up passed (equ_values-none text.base (program_in text) names));
      as_many = ap length none ∙ length-replicate (length names) (Err LaterEqu);
      valued = omega arith;
      valued_within = omega arith;
      operands = omega arith;
      parsed = refl;
      encoded = refl;
    }

pub loop-i-preserved : goal.loop-i-preserved
loop-i-preserved g c =
    let text = c.args.text.now in
    let program = program_in text in
    let before = c.loop-i.invariant in
    let settled = c.settle_equ.ensures in
    let past = c.next_of_kind-i-in-loop-i.ensures in
    let i = c.loop-i.i in
    let next = c.next_of_kind-i-in-loop-i.result in
    let passed = past.passed text.lines.now c.requires.searched in
    let more = operands-more equ_operands program (i + 1) next past.up in
    record {
      within = past.within;
      values = equ_values-past text.base program (i + 1) next text.names.now c.settle_equ.new.row.items past.up passed settled.after;
      as_many = settled.as_many;
      valued = omega (arith, before.valued, settled.valued);
      valued_within = omega (arith, before.valued_within, settled.valued_within, past.up);
      operands = omega (arith, before.operands, settled.operands, operands-next equ_operands program i, more);
      parsed = settled.parsed ∙ before.parsed;
      encoded = settled.encoded ∙ before.encoded;
    }

pub returns-clause-values : goal.returns-clause-values
returns-clause-values g c =
    let text = c.args.text.now in
    let end : c.loop-i.i ≡ length text.lines.now = omega (arith, c.loop-i-test.false, c.loop-i.invariant.within, ap length c.requires.searched) in
    subst (λ k. AreEquValuesIn text k c.loop-i.row.items) end c.loop-i.invariant.values

pub returns-clause-parsed : goal.returns-clause-parsed
returns-clause-parsed g c = c.loop-i.invariant.parsed

pub returns-clause-encoded : goal.returns-clause-encoded
returns-clause-encoded g c = c.loop-i.invariant.encoded

pub settle_equ-requires-clause-within : goal.settle_equ-requires-clause-within
settle_equ-requires-clause-within g c = grind (arith, common_steps)

pub returns-clause-valued_within : goal.returns-clause-valued_within
returns-clause-valued_within g c = grind (arith, common_steps)

pub returns-clause-operands : goal.returns-clause-operands
returns-clause-operands g c =
    let text = c.args.text.now in
    let end : c.loop-i.i ≤ length text.lines.now = omega (arith, c.loop-i.invariant.within, ap length c.requires.searched) in
    omega (arith, c.loop-i.invariant.operands, operands-more equ_operands (program_in text) c.loop-i.i (length text.lines.now) end)
