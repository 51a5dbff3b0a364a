use Rattle.std.proofs.lemmas.Grind.{common_steps}
use Rattle.std.proofs.Common.{◌≡◌, ◌<◌, suc, ◌+◌, [], length, set, replicate, Err, arith, ap, sym, refl, subst, ◌∙◌, ◌≤◌, inl, inr}
use Rattle.std.proofs.lemmas.List.{length-set, length-replicate}
use Rattle.rv_expr.specs.declared.faults.ValueFault.TheVariants.{NoPartner}
use Rattle.rv_program.specs.internal.Rows.{own_high_of, AreOwnHighs}
use Rattle.rv_program.specs.internal.TextRows.{program_in}
use Rattle.rv_program.specs.internal.Work.{high_operands}
use Rattle.rv_program.specs.lemmas.Programs.{length-program}
use Rattle.rv_program.specs.lemmas.ShapeWork.{operands-next, operands-more}
use Rattle.rv_program.proofs.HighRows.{AreHighsThrough, highs-none, highs-past, highs-set, highs-all}
use Rattle.rv_program.proofs.highs.all_own_highs.Goals as goal

pub loop-i-init : goal.loop-i-init
loop-i-init g c =
    let text = c.args.rows.now.text in
    let program = program_in text in
    let count = length c.args.searched.now in
    let none : c.in_ok-row.row.items ≡ replicate count (Err NoPartner) = c.in_ok-row.ensures ∙ ap (λ n. replicate n (Err NoPartner)) c.len-count.ensures in
    let past = c.next_of_kind-i.ensures in
    let i = c.next_of_kind-i.result in
    let passed = past.passed text.lines.now c.requires.searched in
    record {
      within = past.within;
      row = subst (AreHighsThrough text.base program i) (sym none)
          (highs-past text.base program 0 i (replicate count (Err NoPartner)) past.up passed (highs-none text.base program count));
      many = ap length none ∙ length-replicate count (Err NoPartner);
      least = omega arith;
      most = omega arith;
      operands = omega arith;
      parsed = refl;
      encoded = refl;
    }

pub loop-i-preserved : goal.loop-i-preserved
loop-i-preserved g c =
    let text = c.args.rows.now.text in
    let program = program_in text in
    let before = c.loop-i.invariant in
    let past = c.next_of_kind-i-in-loop-i.ensures in
    let line = c.own_high.ensures in
    let i = c.loop-i.i in
    let next = c.next_of_kind-i-in-loop-i.result in
    let passed = past.passed text.lines.now c.requires.searched in
    let row = c.loop-i.row.items in
    let high = c.own_high.result in
    let within : i < length row = omega (arith, c.loop-i-test.true, before.many) in
    let value = line.value ∙ ap (λ n. own_high_of text.base program n) (let e : i + 1 ≡ suc i = omega arith in e) in
    let more = operands-more high_operands program (i + 1) next past.up in
    record {
      within = past.within;
      row = highs-past text.base program (i + 1) next (set row i high) past.up passed (highs-set text.base program i row high within value before.row);
      many = length-set row i high ∙ before.many;
      least = omega (arith, before.least, line.least);
      most = omega (arith, before.most, line.one, past.up);
      operands = omega (arith, before.operands, line.most, operands-next high_operands program i, more);
      parsed = line.parsed ∙ before.parsed;
      encoded = line.encoded ∙ before.encoded;
    }

pub returns-clause-highs : goal.returns-clause-highs
returns-clause-highs g c =
    let text = c.args.rows.now.text in
    let program = program_in text in
    let count : length program ≡ length c.args.searched.now = length-program text.lines.now ∙ sym (ap length c.requires.searched) in
    let end : c.loop-i.i ≡ length program = omega (arith, c.loop-i-test.false, c.loop-i.invariant.within, count) in
    highs-all text.base program c.loop-i.row.items (omega (arith, c.loop-i.invariant.many, count))
    (subst (λ n. AreHighsThrough text.base program n c.loop-i.row.items) end c.loop-i.invariant.row)

-- no line has a high half
pub returns-then-i-count-clause-highs : goal.returns-then-i-count-clause-highs
returns-then-i-count-clause-highs g c =
    let text = c.args.rows.now.text in
    let program = program_in text in
    let past = c.next_of_kind-i.ensures in
    let i = c.next_of_kind-i.result in
    let passed = past.passed text.lines.now c.requires.searched in
    let end : i ≡ length program = omega (arith, c.if-i-count.true, past.within, length-program text.lines.now, ap length c.requires.searched) in
    subst (AreOwnHighs text.base program) (sym c.new.ensures.items)
    (highs-all text.base program [] (omega arith)
    (subst (λ n. AreHighsThrough text.base program n []) end (highs-past text.base program 0 i [] past.up passed (highs-none text.base program 0))))

pub returns-clause-parsed : goal.returns-clause-parsed
returns-clause-parsed g c = c.loop-i.invariant.parsed

pub returns-clause-encoded : goal.returns-clause-encoded
returns-clause-encoded g c = c.loop-i.invariant.encoded

pub returns-clause-operands : goal.returns-clause-operands
returns-clause-operands g c =
    let text = c.args.rows.now.text in
    let end : c.loop-i.i ≤ length text.lines.now = omega (arith, c.loop-i.invariant.within, ap length c.requires.searched) in
    omega (arith, c.loop-i.invariant.operands, operands-more high_operands (program_in text) c.loop-i.i (length text.lines.now) end)

pub overflow_cast-i : goal.overflow_cast-i
overflow_cast-i g c = grind (arith, common_steps)

pub overflow_add-i : goal.overflow_add-i
overflow_add-i g c = grind (arith, common_steps)

pub own_high-requires-clause-last : goal.own_high-requires-clause-last
own_high-requires-clause-last g c = grind (arith, common_steps)

pub own_high-requires-clause-valued : goal.own_high-requires-clause-valued
own_high-requires-clause-valued g c = grind (arith, common_steps)

pub returns-clause-many : goal.returns-clause-many
returns-clause-many g c = inr (c.loop-i.invariant.many ∙ ap length c.requires.searched)

pub returns-then-i-count-clause-many : goal.returns-then-i-count-clause-many
returns-then-i-count-clause-many g c = inl (ap length c.new.ensures.items)
