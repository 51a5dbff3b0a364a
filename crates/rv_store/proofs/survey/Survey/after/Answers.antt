use Rattle.std.proofs.Common.{◌≡◌, ℕ, ◌≤◌, ◌+◌, ◌*◌, ◌^◌, List, length, ap, sym, subst, ◌∙◌, arith}
use Rattle.rv_layout.specs.Places.{is_base, sum_below}
use Rattle.rv_layout.specs.Sections.{sections}
use Rattle.rv_program.specs.declared.before.Before.{Before}
use Rattle.rv_program.specs.Text.{Edit, lines_after}
use Rattle.rv_program.specs.internal.Before.{base_before, lines_before, edit_on}
use Rattle.rv_program.specs.Edits.{edit_of}
use Rattle.rv_store.specs.internal.Ends.{end_in, place_by_shapes}
use Rattle.rv_program.specs.internal.NewShapes.{IsNewShape, shape_operands}
use Rattle.rv_program.specs.internal.Rows.{AreDefinitions, AreLocals}
use Rattle.rv_program.specs.Program.{program_of, for_lines}
use Rattle.rv_program.specs.internal.Work.{equ_operands, constant_operands, high_operands, survey_operands, operands_through, work}
use Rattle.rv_store.proofs.EndBases.{ends-together}
use Rattle.rv_store.specs.internal.Surveys.{IsSurvey}
use Rattle.rv_store.specs.internal.Unmoved.{AreUnmoved}
use Rattle.rv_store.proofs.StillShapes.{shapes-place}
use Rattle.rv_store.proofs.Stores.{survey_grown}
use Rattle.rv_program.specs.lemmas.Lists.{all-first}
use Rattle.rv_program.specs.lemmas.SurveyWork.{survey_counted}
use Rattle.rv_program.specs.lemmas.ShapeWork.{nothing-surveyed}
use Rattle.rv_program.specs.lemmas.TextLines.{length_of_shapes}
use Rattle.rv_store.proofs.Surveys.{unplaced}
use Rattle.rv_store.proofs.survey.Survey.after.Goals as goal

-- what is computed where the shapes are made, and so much after them
surveyed : (before : Before) (base : ℕ) (old lines after : List (List ℕ)) (edit : Edit) → base_before before ≡ base → lines_before before ≡ old → edit_on before ≡ edit → lines ≡ after → after ≡ lines_after old edit → (first shaped last : ℕ) → shaped + shape_operands (edit_on before) ≤ first + work constant_operands (base_before before) (lines_before before) (edit_on before) (length lines) → last ≤ shaped + operands_through equ_operands (program_of lines) (length lines) + work high_operands (base_before before) (lines_before before) (edit_on before) (length lines) → last + shape_operands edit ≤ first + work survey_operands base old edit (length after)
surveyed before base old lines after edit same_base same_lines same_edit same edited first shaped last shapes rest =
    rw same at
    (survey_counted before base old lines edit same_base same_lines same_edit (same ∙ edited)
    first shaped (shaped + operands_through equ_operands (program_of lines) (length lines)) last shapes (omega arith) rest)

pub returns-in_err-definitions-clause-work : goal.returns-in_err-definitions-clause-work
returns-in_err-definitions-clause-work g c =
    omega (arith, nothing-surveyed c.args.base c.args.old.now (edit_of c.args.edit.now) c.requires.allowed (length c.args.self.now.lines.items) (ap length c.requires.edited))

pub before-before-requires-clause-survey : goal.before-before-requires-clause-survey
before-before-requires-clause-survey g c = survey_grown _ _ _ _ _ c.definitions_after.ensures.names c.requires.old

pub returns-in_err-sized-clause-work : goal.returns-in_err-sized-clause-work
returns-in_err-sized-clause-work g c =
    let count = g.C.Count.valued_count in
    let before = c.before-before.ensures in
    surveyed c.before-before.result c.args.base c.args.old.now c.in_tree-searched.result c.args.self.now.lines.items (edit_of c.args.edit.now) before.base before.lines before.edit (c.in_tree-searched.ensures ∙ c.as_slice-lines.ensures) c.requires.edited
    (count c.args.counter.now) (count c.shapes.new.counter) (count c.shapes.new.counter) c.shapes.ensures.work (omega arith)

pub returns-in_err-placed-clause-work : goal.returns-in_err-placed-clause-work
returns-in_err-placed-clause-work g c =
    let count = g.C.Count.valued_count in
    let before = c.before-before.ensures in
    surveyed c.before-before.result c.args.base c.args.old.now c.in_tree-searched.result c.args.self.now.lines.items (edit_of c.args.edit.now) before.base before.lines before.edit (c.in_tree-searched.ensures ∙ c.as_slice-lines.ensures) c.requires.edited
    (count c.args.counter.now) (count c.shapes.new.counter) (count c.shapes.new.counter) c.shapes.ensures.work (omega arith)

pub placed-requires-clause-few : goal.placed-requires-clause-few
placed-requires-clause-few g c =
    let count = length_of_shapes c.in_tree-searched.result c.in_ok-sized.sized.shapes.items c.in_ok-sized.ensures.shapes in
    omega (arith, count, ap length (c.in_tree-searched.ensures ∙ c.as_slice-lines.ensures), c.requires.few)

pub placed-requires-clause-guess : goal.placed-requires-clause-guess
placed-requires-clause-guess g c =
    let count = length_of_shapes c.args.old.now c.args.self.now.shapes.items c.requires.old.shapes in
    subst (λ e. sum_below (end_in e) sections ≤ 2 ^ 30) (sym c.requires.old.ends) (ends-together c.args.self.now.shapes.items c.requires.old.limited (omega (arith, count, c.requires.old_few)))

pub placed-requires-clause-place : goal.placed-requires-clause-place
placed-requires-clause-place g c = shapes-place c.args.old.now (edit_of c.args.edit.now) c.args.self.now.shapes.items c.requires.allowed c.requires.old.shapes

pub placed-requires-clause-places : goal.placed-requires-clause-places
placed-requires-clause-places g c =
    unplaced c.args.base (program_of c.args.old.now) c.args.self.now.shapes.items c.args.self.now.places.items c.requires.old.shapes c.requires.old.places

-- what is so of the shapes before an edit is so of those of the survey
pub placed-requires-clause-still : goal.placed-requires-clause-still
placed-requires-clause-still g c = λ still.
    let before = c.before-before.ensures in
    let unmoved = c.in_ok-sized.ensures.still still in
    subst (λ e. AreUnmoved c.args.self.now.shapes.items e c.in_ok-sized.sized.shapes.items) before.edit
    (subst (λ ms. AreUnmoved ms (edit_on c.before-before.result) c.in_ok-sized.sized.shapes.items) before.shapes unmoved)

pub by_rows-requires-clause-ends : goal.by_rows-requires-clause-ends
by_rows-requires-clause-ends g c = c.in_ok-placed.ensures.ends

pub by_rows-requires-clause-places : goal.by_rows-requires-clause-places
by_rows-requires-clause-places g c =
    let shapes = c.in_ok-sized.sized.shapes.items in
    c.in_ok-placed.ensures.places
    ∙ ap (λ base. for_lines (place_by_shapes base shapes) (length shapes)) (sym c.before-before.ensures.base)

pub returns-in_err-locals-clause-work : goal.returns-in_err-locals-clause-work
returns-in_err-locals-clause-work g c =
    let count = g.C.Count.valued_count in
    let before = c.before-before.ensures in
    surveyed c.before-before.result c.args.base c.args.old.now c.in_tree-searched.result c.args.self.now.lines.items (edit_of c.args.edit.now) before.base before.lines before.edit (c.in_tree-searched.ensures ∙ c.as_slice-lines.ensures) c.requires.edited
    (count c.args.counter.now) (count c.shapes.new.counter) (count c.shapes.new.counter) c.shapes.ensures.work (omega arith)

pub returns-clause-work : goal.returns-clause-work
returns-clause-work g c =
    let count = g.C.Count.valued_count in
    let before = c.before-before.ensures in
    surveyed c.before-before.result c.args.base c.args.old.now c.in_tree-searched.result c.args.self.now.lines.items (edit_of c.args.edit.now) before.base before.lines before.edit (c.in_tree-searched.ensures ∙ c.as_slice-lines.ensures) c.requires.edited
    (count c.args.counter.now) (count c.shapes.new.counter) (count c.by_rows.new.counter) c.shapes.ensures.work c.by_rows.ensures.work

pub returns-in_err-survey-clause-work : goal.returns-in_err-survey-clause-work
returns-in_err-survey-clause-work g c =
    let count = g.C.Count.valued_count in
    let before = c.before-before.ensures in
    surveyed c.before-before.result c.args.base c.args.old.now c.in_tree-searched.result c.args.self.now.lines.items (edit_of c.args.edit.now) before.base before.lines before.edit (c.in_tree-searched.ensures ∙ c.as_slice-lines.ensures) c.requires.edited
    (count c.args.counter.now) (count c.shapes.new.counter) (count c.by_rows.new.counter) c.shapes.ensures.work c.by_rows.ensures.work

pub returns-in_err-sized-clause-parsed : goal.returns-in_err-sized-clause-parsed
returns-in_err-sized-clause-parsed g c = c.shapes.ensures.parsed

pub returns-in_err-placed-clause-parsed : goal.returns-in_err-placed-clause-parsed
returns-in_err-placed-clause-parsed g c = c.shapes.ensures.parsed

pub returns-in_err-locals-clause-parsed : goal.returns-in_err-locals-clause-parsed
returns-in_err-locals-clause-parsed g c = c.shapes.ensures.parsed

pub returns-clause-parsed : goal.returns-clause-parsed
returns-clause-parsed g c = c.by_rows.ensures.parsed ∙ c.shapes.ensures.parsed

pub returns-in_err-sized-clause-encoded : goal.returns-in_err-sized-clause-encoded
returns-in_err-sized-clause-encoded g c = c.shapes.ensures.encoded

pub returns-in_err-placed-clause-encoded : goal.returns-in_err-placed-clause-encoded
returns-in_err-placed-clause-encoded g c = c.shapes.ensures.encoded

pub returns-in_err-locals-clause-encoded : goal.returns-in_err-locals-clause-encoded
returns-in_err-locals-clause-encoded g c = c.shapes.ensures.encoded

pub returns-clause-encoded : goal.returns-clause-encoded
returns-clause-encoded g c = c.by_rows.ensures.encoded ∙ c.shapes.ensures.encoded

pub shapes-requires-clause-shape : goal.shapes-requires-clause-shape
shapes-requires-clause-shape g c =
    let before = c.before-before.ensures in
    subst (λ ls. IsNewShape ls (edit_on c.before-before.result) c.args.shape) (sym before.lines)
    (subst (λ e. IsNewShape c.args.old.now e c.args.shape) (sym before.edit) c.requires.shape)

pub returns-clause-still : goal.returns-clause-still
returns-clause-still g c = λ still.
    let before = c.before-before.ensures in
    let unmoved = c.in_ok-sized.ensures.still still in
    subst (AreUnmoved c.args.self.now.shapes.items (edit_of c.args.edit.now)) (c.in_ok-sized.ensures.shapes ∙ sym c.in_ok-survey.ensures.survey.shapes)
    (subst (λ e. AreUnmoved c.args.self.now.shapes.items e c.in_ok-sized.sized.shapes.items) before.edit
    (subst (λ ms. AreUnmoved ms (edit_on c.before-before.result) c.in_ok-sized.sized.shapes.items) before.shapes unmoved))

pub returns-in_err-survey-clause-parsed : goal.returns-in_err-survey-clause-parsed
returns-in_err-survey-clause-parsed g c = c.by_rows.ensures.parsed ∙ c.shapes.ensures.parsed

pub returns-in_err-survey-clause-encoded : goal.returns-in_err-survey-clause-encoded
returns-in_err-survey-clause-encoded g c = c.by_rows.ensures.encoded ∙ c.shapes.ensures.encoded

-- The rows of the text before

pub in_tree-searched-requires : goal.in_tree-searched-requires
in_tree-searched-requires g c = all-first (c.requires.items ∙ sym c.as_slice-lines.ensures)

pub definitions_after-requires-clause-row : goal.definitions_after-requires-clause-row
definitions_after-requires-clause-row g c =
    subst (AreDefinitions (program_of c.args.old.now) c.args.names.now) (sym c.deref.ensures.value) c.requires.old.definitions

pub definitions_after-requires-clause-edited : goal.definitions_after-requires-clause-edited
definitions_after-requires-clause-edited g c = (c.in_tree-searched.ensures ∙ c.as_slice-lines.ensures) ∙ c.requires.edited

pub definitions_after-requires-clause-few : goal.definitions_after-requires-clause-few
definitions_after-requires-clause-few g c = subst (λ ls. length ls ≤ 16384) (sym (c.in_tree-searched.ensures ∙ c.as_slice-lines.ensures)) c.requires.few

pub shapes-requires-clause-before : goal.shapes-requires-clause-before
shapes-requires-clause-before g c = c.before-before.ensures.before

pub shapes-requires-clause-after : goal.shapes-requires-clause-after
shapes-requires-clause-after g c =
    let before = c.before-before.ensures in
    (c.in_tree-searched.ensures ∙ c.as_slice-lines.ensures) ∙ c.requires.edited ∙ sym (λ i. lines_after (before.lines i) (before.edit i))

pub shapes-requires-clause-few : goal.shapes-requires-clause-few
shapes-requires-clause-few g c = subst (λ ls. length ls ≤ 16384) (sym (c.in_tree-searched.ensures ∙ c.as_slice-lines.ensures)) c.requires.few

pub shapes-requires-clause-definitions : goal.shapes-requires-clause-definitions
shapes-requires-clause-definitions g c =
    let program = program_of c.in_tree-searched.result in
    subst (λ names. AreDefinitions program names c.deref-2.result.now) (sym c.before-before.ensures.names)
    (subst (AreDefinitions program c.definitions_after.new.names) (sym c.deref-2.ensures.value) c.in_ok-definitions.ensures.definitions)

pub locals_after-requires-clause-before : goal.locals_after-requires-clause-before
locals_after-requires-clause-before g c = c.before-before.ensures.before

pub locals_after-requires-clause-edited : goal.locals_after-requires-clause-edited
locals_after-requires-clause-edited g c =
    let before = c.before-before.ensures in
    c.as_slice-lines.ensures ∙ c.requires.edited ∙ sym (λ i. lines_after (before.lines i) (before.edit i))

pub locals_after-requires-clause-few : goal.locals_after-requires-clause-few
locals_after-requires-clause-few g c = subst (λ ls. length ls ≤ 16384) (sym c.as_slice-lines.ensures) c.requires.few

pub by_rows-requires-clause-base : goal.by_rows-requires-clause-base
by_rows-requires-clause-base g c = ap is_base c.before-before.ensures.base ∙ c.requires.base

pub by_rows-requires-clause-before : goal.by_rows-requires-clause-before
by_rows-requires-clause-before g c = c.before-before.ensures.before

pub by_rows-requires-clause-edited : goal.by_rows-requires-clause-edited
by_rows-requires-clause-edited g c =
    let before = c.before-before.ensures in
    (c.in_tree-searched.ensures ∙ c.as_slice-lines.ensures) ∙ c.requires.edited ∙ sym (λ i. lines_after (before.lines i) (before.edit i))

pub by_rows-requires-clause-few : goal.by_rows-requires-clause-few
by_rows-requires-clause-few g c = subst (λ ls. length ls ≤ 16384) (sym (c.in_tree-searched.ensures ∙ c.as_slice-lines.ensures)) c.requires.few

pub by_rows-requires-clause-definitions : goal.by_rows-requires-clause-definitions
by_rows-requires-clause-definitions g c =
    subst (λ names. AreDefinitions (program_of c.in_tree-searched.result) names c.in_ok-definitions.definitions.items) (sym c.before-before.ensures.names) c.in_ok-definitions.ensures.definitions

pub by_rows-requires-clause-constants : goal.by_rows-requires-clause-constants
by_rows-requires-clause-constants g c = c.in_ok-sized.ensures.constants

pub by_rows-requires-clause-shapes : goal.by_rows-requires-clause-shapes
by_rows-requires-clause-shapes g c = c.in_ok-sized.ensures.shapes

pub by_rows-requires-clause-limited : goal.by_rows-requires-clause-limited
by_rows-requires-clause-limited g c = c.in_ok-sized.ensures.limited

pub by_rows-requires-clause-locals : goal.by_rows-requires-clause-locals
by_rows-requires-clause-locals g c =
    subst (λ ls. AreLocals (program_of ls) (length ls) c.in_ok-locals.locals) (sym c.in_tree-searched.ensures) c.in_ok-locals.ensures

-- How many values are computed

shaped-room : (first shaped n m : ℕ) → first ≤ 2 ^ 63 + 1 → shaped ≤ first + 2 * n → n ≡ m → m ≤ 16384 → shaped ≤ 2 ^ 63 + 2 ^ 32
shaped-room first shaped n m room most same few = omega arith

shaped-most : (first shaped n m : ℕ) → shaped ≤ first + 2 * n → n ≡ m → shaped ≤ first + 4 * m
shaped-most first shaped n m most same = omega arith

both-most : (first shaped last n m : ℕ) → shaped ≤ first + 2 * n → last ≤ shaped + 2 * n → n ≡ m → last ≤ first + 4 * m
both-most first shaped last n m most rest same = omega arith

both-least : (first shaped last : ℕ) → first ≤ shaped → shaped ≤ last → first ≤ last
both-least first shaped last least rest = omega arith

pub by_rows-requires-clause-valued : goal.by_rows-requires-clause-valued
by_rows-requires-clause-valued g c =
    let count = g.C.Count.valued_count in
    shaped-room (count c.args.counter.now) (count c.shapes.new.counter) (length c.in_tree-searched.result) (length c.args.self.now.lines.items) c.requires.valued c.shapes.ensures.most (ap length (c.in_tree-searched.ensures ∙ c.as_slice-lines.ensures)) c.requires.few

pub returns-in_err-sized-clause-least : goal.returns-in_err-sized-clause-least
returns-in_err-sized-clause-least g c = c.shapes.ensures.least

pub returns-in_err-placed-clause-least : goal.returns-in_err-placed-clause-least
returns-in_err-placed-clause-least g c = c.shapes.ensures.least

pub returns-in_err-locals-clause-least : goal.returns-in_err-locals-clause-least
returns-in_err-locals-clause-least g c = c.shapes.ensures.least

pub returns-in_err-survey-clause-least : goal.returns-in_err-survey-clause-least
returns-in_err-survey-clause-least g c =
    let count = g.C.Count.valued_count in
    both-least (count c.args.counter.now) (count c.shapes.new.counter) (count c.by_rows.new.counter) c.shapes.ensures.least c.by_rows.ensures.least

pub returns-clause-least : goal.returns-clause-least
returns-clause-least g c =
    let count = g.C.Count.valued_count in
    both-least (count c.args.counter.now) (count c.shapes.new.counter) (count c.by_rows.new.counter) c.shapes.ensures.least c.by_rows.ensures.least

pub returns-in_err-sized-clause-most : goal.returns-in_err-sized-clause-most
returns-in_err-sized-clause-most g c =
    let count = g.C.Count.valued_count in
    shaped-most (count c.args.counter.now) (count c.shapes.new.counter) (length c.in_tree-searched.result) (length c.args.self.now.lines.items) c.shapes.ensures.most (ap length (c.in_tree-searched.ensures ∙ c.as_slice-lines.ensures))

pub returns-in_err-placed-clause-most : goal.returns-in_err-placed-clause-most
returns-in_err-placed-clause-most g c =
    let count = g.C.Count.valued_count in
    shaped-most (count c.args.counter.now) (count c.shapes.new.counter) (length c.in_tree-searched.result) (length c.args.self.now.lines.items) c.shapes.ensures.most (ap length (c.in_tree-searched.ensures ∙ c.as_slice-lines.ensures))

pub returns-in_err-locals-clause-most : goal.returns-in_err-locals-clause-most
returns-in_err-locals-clause-most g c =
    let count = g.C.Count.valued_count in
    shaped-most (count c.args.counter.now) (count c.shapes.new.counter) (length c.in_tree-searched.result) (length c.args.self.now.lines.items) c.shapes.ensures.most (ap length (c.in_tree-searched.ensures ∙ c.as_slice-lines.ensures))

pub returns-in_err-survey-clause-most : goal.returns-in_err-survey-clause-most
returns-in_err-survey-clause-most g c =
    let count = g.C.Count.valued_count in
    both-most (count c.args.counter.now) (count c.shapes.new.counter) (count c.by_rows.new.counter) (length c.in_tree-searched.result) (length c.args.self.now.lines.items) c.shapes.ensures.most c.by_rows.ensures.most (ap length (c.in_tree-searched.ensures ∙ c.as_slice-lines.ensures))

pub returns-clause-most : goal.returns-clause-most
returns-clause-most g c =
    let count = g.C.Count.valued_count in
    both-most (count c.args.counter.now) (count c.shapes.new.counter) (count c.by_rows.new.counter) (length c.in_tree-searched.result) (length c.args.self.now.lines.items) c.shapes.ensures.most c.by_rows.ensures.most (ap length (c.in_tree-searched.ensures ∙ c.as_slice-lines.ensures))

pub returns-clause-survey : goal.returns-clause-survey
returns-clause-survey g c =
    let before = c.before-before.ensures in
    subst (λ ls. IsSurvey c.args.base (program_of ls) c.definitions_after.new.names c.in_ok-survey.survey) (c.in_tree-searched.ensures ∙ c.as_slice-lines.ensures)
    (subst (λ names. IsSurvey c.args.base (program_of c.in_tree-searched.result) names c.in_ok-survey.survey) before.names
    (subst (λ base. IsSurvey base (program_of c.in_tree-searched.result) c.before-before.result.symbols.text.names.now c.in_ok-survey.survey) before.base c.in_ok-survey.ensures.survey))

pub returns-in_err-locals-clause-names : goal.returns-in_err-locals-clause-names
returns-in_err-locals-clause-names g c = c.definitions_after.ensures.names

pub returns-in_err-survey-clause-names : goal.returns-in_err-survey-clause-names
returns-in_err-survey-clause-names g c = c.definitions_after.ensures.names

pub returns-clause-names : goal.returns-clause-names
returns-clause-names g c = c.definitions_after.ensures.names
