use Rattle.std.proofs.lemmas.Grind.{common_steps}
use Rattle.std.proofs.Common.{◌≡◌, ◌+◌, length, ap, sym, ◌∙◌, arith}
use Rattle.rv_program.specs.internal.Before.{base_before, lines_before, edit_on}
use Rattle.rv_program.specs.internal.Briefs.{brief_of}
use Rattle.rv_program.specs.Changes.{is_due}
use Rattle.rv_program.specs.Counted.{counts_of}
use Rattle.rv_program.specs.Program.{program_of, statement_at, lines_that}
use Rattle.rv_program.specs.Text.{lines_after}
use Rattle.rv_program.proofs.ChangeLaws.{due-invalidated, not_due}
use Rattle.rv_program.proofs.ComparedJumps.{none-compared, next-compared, more-compared}
use Rattle.rv_program.proofs.ValidLines.{due-apart}
use Rattle.rv_program.specs.lemmas.LineRows.{row-added, row-kept, row-through}
use Rattle.rv_program.specs.lemmas.LocalLines.{statement-of-line}
use Rattle.rv_program.proofs.due.due_lines.Goals as goal
use Rattle.rv_program.proofs.due.due_lines.Goals.{then-is_due_by_brief+in_ok-push, else-is_due_by_brief}

pub is_due_by_brief-requires-clause-brief : goal.is_due_by_brief-requires-clause-brief
is_due_by_brief-requires-clause-brief g c =
    let i = c.lines.i in
    let statement = statement-of-line c.lines-lines.result.now i c.index-lines-i.result (omega (arith, c.lines-test.true)) c.index-lines-i.is in
    c.brief.ensures ∙ ap brief_of (sym statement ∙ ap (λ lines. statement_at (program_of lines) (i + 1)) (c.lines-lines.ensures ∙ c.requires.searched))

pub lines-init : goal.lines-init
lines-init g c =
    let before = c.args.before.now in
    let counts = counts_of g.C.Count.parsed_count g.C.Count.valued_count g.C.Count.encoded_count c.args.counter.now in
    let next = c.lines_up_to_due-i.result in
    let up = c.lines_up_to_due-i.ensures in
    record {
      within = up.within;
      row = c.new-row.ensures.items
          ∙ row-through (is_due (base_before before) (lines_before before) (edit_on before)) 0 next up.up
          (due-apart before c.args.after.now.text c.args.searched.now c.args.still c.due_mask-wanted.result c.args.differing.now c.in_ok-lows.lows c.requires.before c.requires.after c.requires.searched c.requires.still c.requires.differing c.in_ok-lows.ensures c.due_mask-wanted.ensures 0 next up.within up.passed
          (λ k first last at. up.apart k first last (at ∙ sym c.place-place.ensures.value)));
      compared = more-compared before 0 next counts counts up.up (none-compared before counts);
    }

pub lines-preserved : goal.lines-preserved
lines-preserved g c =
    let before = c.args.before.now in
    let test = is_due (base_before before) (lines_before before) (edit_on before) in
    let n = c.lines.i in
    let row = c.lines.row.items in
    let counts = counts_of g.C.Count.parsed_count g.C.Count.valued_count g.C.Count.encoded_count in
    let next = c.lines_up_to_due-i-in-lines.result in
    let up = c.lines_up_to_due-i-in-lines.ensures in
    let apart = row-through test (n + 1) next up.up
    (due-apart before c.args.after.now.text c.args.searched.now c.args.still c.due_mask-wanted.result c.args.differing.now c.in_ok-lows.lows c.requires.before c.requires.after c.requires.searched c.requires.still c.requires.differing c.in_ok-lows.ensures c.due_mask-wanted.ensures (n + 1) next up.within up.passed
    (λ k first last at. up.apart k first last (at ∙ sym c.place-place.ensures.value))) in
    record {
      within = up.within;
      row = elim c.if-is_due_by_brief.branch [
        | then-is_due_by_brief+in_ok-push w ↦ ap (λ v. v.items) w.row-is ∙ w.in_ok-push.ensures.items ∙ row-added test n row c.lines.invariant.row (sym c.is_due_by_brief.ensures.due ∙ w.if-is_due_by_brief.true) ∙ apart
        | else-is_due_by_brief w ↦ ap (λ v. v.items) w.row-is ∙ row-kept test n row c.lines.invariant.row (sym c.is_due_by_brief.ensures.due ∙ w.if-is_due_by_brief.false) ∙ apart
      ];
      compared = more-compared before (n + 1) next (counts c.args.counter.now) (counts c.is_due_by_brief.new.counter) up.up
          (next-compared before n (counts c.args.counter.now) (counts c.lines.counter) (counts c.is_due_by_brief.new.counter) c.lines.invariant.compared c.is_due_by_brief.ensures.compared);
    }

-- behind the last line it has all of them
pub returns-clause-due : goal.returns-clause-due
returns-clause-due g c =
    let before = c.args.before.now in
    let base = base_before before in
    let lines = lines_before before in
    let edit = edit_on before in
    let allowed = c.requires.before.allowed in
    let count : length c.args.after.now.text.lines.now ≡ length (lines_after lines edit) = ap length c.requires.after.lines in
    let all : c.lines.i ≡ length c.args.after.now.text.lines.now = omega (arith, c.lines-test.false, c.lines.invariant.within, ap length c.requires.searched, ap length c.lines-lines.ensures) in
    record {
      test = is_due base lines edit;
      tells = record {
        invalidated = λ i first last due. due-invalidated base lines edit i allowed first (omega (arith, last, count)) due;
        others = λ i first last none. not_due base lines edit i allowed first (omega (arith, last, count)) none;
      };
      those = c.lines.invariant.row ∙ ap (lines_that (is_due base lines edit)) all;
    }

-- where no memory is left for the row
pub returns-in_err-push-clause-compared : goal.returns-in_err-push-clause-compared
returns-in_err-push-clause-compared g c =
    let counts = counts_of g.C.Count.parsed_count g.C.Count.valued_count g.C.Count.encoded_count in
    let old = counts c.args.counter.now in
    let new = counts c.is_due_by_brief.new.counter in
    more-compared c.args.before.now (c.lines.i + 1) (length c.args.after.now.text.lines.now) old new (omega (arith, c.lines-test.true, ap length c.requires.searched, ap length c.lines-lines.ensures))
    (next-compared c.args.before.now c.lines.i old (counts c.lines.counter) new c.lines.invariant.compared c.is_due_by_brief.ensures.compared)

pub lines_up_to_due-i-requires-in-lines : goal.lines_up_to_due-i-requires-in-lines
lines_up_to_due-i-requires-in-lines g c = grind (arith, common_steps)

pub is_due_by_brief-requires-clause-last : goal.is_due_by_brief-requires-clause-last
is_due_by_brief-requires-clause-last g c = omega (arith, c.lines-test.true, ap length c.requires.searched, ap length c.lines-lines.ensures)

pub overflow_cast-line : goal.overflow_cast-line
overflow_cast-line g c = omega (arith, c.lines-test.true, c.requires.after.few, ap length c.requires.searched, ap length c.lines-lines.ensures)

pub overflow_add-line : goal.overflow_add-line
overflow_add-line g c = omega (arith, c.lines-test.true, c.requires.after.few, ap length c.requires.searched, ap length c.lines-lines.ensures)

pub returns-clause-compared : goal.returns-clause-compared
returns-clause-compared g c =
    let counts = counts_of g.C.Count.parsed_count g.C.Count.valued_count g.C.Count.encoded_count in
    more-compared c.args.before.now c.lines.i (length c.args.after.now.text.lines.now) (counts c.args.counter.now) (counts c.lines.counter) (omega (arith, c.lines.invariant.within, ap length c.requires.searched, ap length c.lines-lines.ensures)) c.lines.invariant.compared
