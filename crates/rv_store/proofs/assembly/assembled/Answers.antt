use Rattle.std.proofs.Common.{length, arith, ap, ◌∙◌}
use Rattle.rv_program.specs.Edits.{edit_of}
use Rattle.rv_program.specs.Changes.{is_changed}
use Rattle.rv_program.specs.Program.{lines_that}
use Rattle.rv_program.specs.Counted.{counts_of}
use Rattle.rv_store.proofs.CountedEdits.{counted-after, counted-renewed}
use Rattle.rv_store.proofs.Stores.{survey_grown}
use Rattle.rv_store.proofs.assembly.assembled.Goals as goal

pub returns-in_err-after-clause-counted : goal.returns-in_err-after-clause-counted
returns-in_err-after-clause-counted g c =
    let counts = counts_of g.C.Count.parsed_count g.C.Count.valued_count g.C.Count.encoded_count in
    let made = c.after.ensures in
    counted-after c.args.base c.args.old.now c.args.survey.now.lines.items (edit_of c.args.edit.now) (counts c.args.counter.now) (counts c.after.new.counter) (g.C.Count.valued_count c.after.new.counter)
    c.requires.edited made.parsed made.least made.most made.work (omega arith) (omega arith) (omega arith) (omega (arith, made.encoded)) (omega (arith, made.encoded)) (omega (arith, made.encoded))

pub items_edited-requires-clause-old : goal.items_edited-requires-clause-old
items_edited-requires-clause-old g c = survey_grown _ _ _ _ _ c.after.ensures.names c.requires.survey

pub returns-in_err-items-clause-counted : goal.returns-in_err-items-clause-counted
returns-in_err-items-clause-counted g c =
    let counts = counts_of g.C.Count.parsed_count g.C.Count.valued_count g.C.Count.encoded_count in
    let made = c.after.ensures in
    counted-renewed c.args.base c.args.old.now c.args.survey.now.lines.items (edit_of c.args.edit.now) (counts c.args.counter.now) (counts c.after.new.counter) (counts c.items_edited.new.counter)
    c.requires.edited made.parsed made.least made.most made.work made.encoded c.items_edited.ensures.counted

pub returns-clause-counted : goal.returns-clause-counted
returns-clause-counted g c =
    let counts = counts_of g.C.Count.parsed_count g.C.Count.valued_count g.C.Count.encoded_count in
    let made = c.after.ensures in
    counted-renewed c.args.base c.args.old.now c.args.survey.now.lines.items (edit_of c.args.edit.now) (counts c.args.counter.now) (counts c.after.new.counter) (counts c.items_edited.new.counter)
    c.requires.edited made.parsed made.least made.most made.work made.encoded c.items_edited.ensures.counted

pub returns-clause-changed : goal.returns-clause-changed
returns-clause-changed g c =
    c.in_ok-items.ensures.changed
    ∙ ap (λ ls. lines_that (is_changed c.args.base c.args.old.now (edit_of c.args.edit.now)) (length ls)) c.requires.edited
