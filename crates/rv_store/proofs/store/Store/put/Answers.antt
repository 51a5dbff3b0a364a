use Rattle.std.proofs.Common.{◌≡◌, ◌+◌, ◌≤◌, List, ℕ, None, length, map, arith, ap, sym, subst, ◌∙◌}
use Rattle.std.specs.List.{AllPass}
use Rattle.rv_program.specs.declared.item.Item.{Item}
use Rattle.rv_program.specs.Changes.{changed_lines, most_values, most_codes}
use Rattle.rv_program.specs.Edits.{edit_of, place_of_edit}
use Rattle.rv_program.specs.Program.{program_of}
use Rattle.rv_program.specs.Text.{Edit, Text, is_line, refusal_of, lines_after}
use Rattle.rv_program.specs.internal.Items.{AreItems}
use Rattle.rv_program.specs.internal.NewShapes.{shape_operands}
use Rattle.rv_program.specs.lemmas.Programs.{length-program}
use Rattle.rv_program.specs.lemmas.ShapeWork.{nothing-counted}
use Rattle.rv_store.specs.declared.survey.Survey.{Survey}
use Rattle.rv_store.specs.internal.Still.{IsPutEdit}
use Rattle.rv_store.specs.internal.StillLines.{IsStillLine}
use Rattle.rv_store.specs.internal.Stored.{IsStored}
use Rattle.rv_store.specs.internal.Surveys.{IsSurvey}
use Rattle.rv_store.proofs.EditRefusals.{lined_after, few_after}
use Rattle.rv_store.proofs.StillRows.{symbols-same, survey-back, count-shapes, count-places}
use Rattle.rv_store.proofs.StillTexts.{within-next}
use Rattle.rv_store.proofs.store.Store.put.Goals as goal

-- the survey is that of the lines that it holds, which are those of the text
module _ (base : ℕ) (names : List (List ℕ)) (survey : Survey) (items : List Item) (stored : IsStored base (map (λ i. i.line) items) names survey items) (old : Text) (view : record { base = base; lines = map (λ i. i.line) items } ≡ old) where
  surveyed : IsSurvey base (program_of survey.lines.items) names survey
  surveyed = subst (λ ls. IsSurvey base (program_of ls) names survey) (sym stored.listed) stored.surveyed

  same : old.lines ≡ survey.lines.items
  same = sym (stored.listed ∙ ap (λ t. t.lines) view)

  by-kept : (P : ℕ → List (List ℕ) → Type 0) → P old.base old.lines → P base survey.lines.items
  by-kept P is = subst (P base) same (subst (λ b. P b old.lines) (sym (ap (λ t. t.base) view)) is)

  by-text : (P : ℕ → List (List ℕ) → Type 0) → P base survey.lines.items → P old.base old.lines
  by-text P is = subst (λ b. P b old.lines) (ap (λ t. t.base) view) (subst (P base) (sym same) is)

  module _ (edit : Edit) (allowed : refusal_of old.lines edit ≡ None) where
    allowed-kept : refusal_of survey.lines.items edit ≡ None
    allowed-kept = by-kept (λ b ls. refusal_of ls edit ≡ None) allowed

    few : length (lines_after survey.lines.items edit) ≤ 16384
    few = few_after survey.lines.items edit (rw (sym stored.listed) at stored.few) allowed-kept

    stored-after : (names' : List (List ℕ)) (new : Survey) (items' : List Item) → new.lines.items ≡ lines_after survey.lines.items edit → IsSurvey base (program_of (lines_after survey.lines.items edit)) names' new → AreItems base (lines_after survey.lines.items edit) items' → IsStored base (map (λ i. i.line) items') names' new items'
    stored-after names' new items' listed now are = record {
      based = stored.based;
      lined = subst (AllPass is_line) (sym are.lines) (lined_after survey.lines.items edit (rw (sym stored.listed) at stored.lined) allowed-kept);
      few = omega (arith, few, ap length are.lines);
      listed = listed ∙ sym are.lines;
      surveyed = subst (λ ls. IsSurvey base (program_of ls) names' new) (sym are.lines) now;
      assembled = subst (λ ls. AreItems base ls items') (sym are.lines) are;
    }

pub former-requires-clause-lines : goal.former-requires-clause-lines
former-requires-clause-lines g c =
    let next = within-next c.requires.still.still in
    omega (arith, next, length-program c.args.self.now.lines, ap length c.self.invariant.listed, ap (λ t. length t.lines) c.self.view_is, c.place.ensures.value)

pub former-requires-clause-shapes : goal.former-requires-clause-shapes
former-requires-clause-shapes g c =
    count-shapes c.self.inside.base c.self.inside.survey.lines.items c.self.inside.names c.self.inside.survey (surveyed c.self.inside.base c.self.inside.names c.self.inside.survey c.self.inside.items.items c.self.invariant c.args.self.now c.self.view_is)

pub former-requires-clause-places : goal.former-requires-clause-places
former-requires-clause-places g c =
    count-places c.self.inside.base c.self.inside.survey.lines.items c.self.inside.names c.self.inside.survey (surveyed c.self.inside.base c.self.inside.names c.self.inside.survey c.self.inside.items.items c.self.invariant c.args.self.now c.self.view_is)

pub put_still-requires-clause-survey : goal.put_still-requires-clause-survey
put_still-requires-clause-survey g c = surveyed c.self.inside.base c.self.inside.names c.self.inside.survey c.self.inside.items.items c.self.invariant c.args.self.now c.self.view_is

pub put_still-requires-clause-still : goal.put_still-requires-clause-still
put_still-requires-clause-still g c =
    by-kept c.self.inside.base c.self.inside.names c.self.inside.survey c.self.inside.items.items c.self.invariant c.args.self.now c.self.view_is
    (λ b ls. IsStillLine b ls (place_of_edit (edit_of c.args.edit.now)) c.args.line c.args.still.now c.args.due.now) c.requires.still

pub put_still-requires-clause-edited : goal.put_still-requires-clause-edited
put_still-requires-clause-edited g c =
    by-kept c.self.inside.base c.self.inside.names c.self.inside.survey c.self.inside.items.items c.self.invariant c.args.self.now c.self.view_is
    (λ b ls. IsPutEdit ls (edit_of c.args.edit.now) (place_of_edit (edit_of c.args.edit.now)) c.args.line) c.requires.edit

pub put_still-requires-clause-allowed : goal.put_still-requires-clause-allowed
put_still-requires-clause-allowed g c =
    allowed-kept c.self.inside.base c.self.inside.names c.self.inside.survey c.self.inside.items.items c.self.invariant c.args.self.now c.self.view_is (edit_of c.args.edit.now) c.requires.allowed

pub put_still-requires-clause-few : goal.put_still-requires-clause-few
put_still-requires-clause-few g c =
    few c.self.inside.base c.self.inside.names c.self.inside.survey c.self.inside.items.items c.self.invariant c.args.self.now c.self.view_is (edit_of c.args.edit.now) c.requires.allowed

pub put_still-requires-clause-items : goal.put_still-requires-clause-items
put_still-requires-clause-items g c =
    subst (λ ls. AreItems c.self.inside.base ls c.self.inside.items.items) (sym c.self.invariant.listed) c.self.invariant.assembled

pub invariant_of-self : goal.invariant_of-self
invariant_of-self g c =
    stored-after c.self.inside.base c.self.inside.names c.self.inside.survey c.self.inside.items.items c.self.invariant c.args.self.now c.self.view_is (edit_of c.args.edit.now) c.requires.allowed
    c.put_still.new.names c.put_still.new.survey c.in-Ok.items.items c.in-Ok.ensures.lines c.in-Ok.ensures.survey c.in-Ok.ensures.items

pub invariant_of-self-in-Err : goal.invariant_of-self-in-Err
invariant_of-self-in-Err g c =
    let base = c.self.inside.base in
    let survey = c.self.inside.survey in
    let lines : List (List ℕ) = survey.lines.items in
    let whole = surveyed base c.self.inside.names survey c.self.inside.items.items c.self.invariant c.args.self.now c.self.view_is in
    let back = c.take_back.ensures.lines survey (rw (sym c.place.ensures.value) at c.in-Err.ensures.err) c.in_ok-former.ensures in
    let symbols = symbols-same base (program_of lines) (length lines) c.put_still.new.names c.put_still.new.survey c.take_back.new.self c.take_back.ensures.symbols c.in-Err.ensures.symbols in
    let now = survey-back base lines c.self.inside.names c.put_still.new.names survey c.take_back.new.self whole back symbols in
    record {
      based = c.self.invariant.based;
      lined = c.self.invariant.lined;
      few = c.self.invariant.few;
      listed = back.lines ∙ c.self.invariant.listed;
      surveyed = subst (λ ls. IsSurvey base (program_of ls) c.put_still.new.names c.take_back.new.self) c.self.invariant.listed now;
      assembled = c.self.invariant.assembled;
    }

pub returns-in-Ok-clause-ok : goal.returns-in-Ok-clause-ok
returns-in-Ok-clause-ok g c =
    let lines = c.in-Ok.ensures.items.lines ∙ ap (λ ls. lines_after ls (edit_of c.args.edit.now)) (c.self.invariant.listed ∙ ap (λ t. t.lines) c.self.view_is) in
    λ j. record { base = (c.self.view_is j).base; lines = lines j }

pub returns-in-Ok-clause-changed : goal.returns-in-Ok-clause-changed
returns-in-Ok-clause-changed g c =
    by-text c.self.inside.base c.self.inside.names c.self.inside.survey c.self.inside.items.items c.self.invariant c.args.self.now c.self.view_is
    (λ b ls. c.in-Ok.changed.lines ≡ changed_lines b ls (edit_of c.args.edit.now)) c.in-Ok.ensures.changed

pub returns-in_err-former-clause-values : goal.returns-in_err-former-clause-values
returns-in_err-former-clause-values g c =
    omega (arith, nothing-counted c.args.self.now.base c.args.self.now.lines (edit_of c.args.edit.now) c.requires.allowed)

pub returns-in-Err-clause-valued : goal.returns-in-Err-clause-valued
returns-in-Err-clause-valued g c =
    let most = few c.self.inside.base c.self.inside.names c.self.inside.survey c.self.inside.items.items c.self.invariant c.args.self.now c.self.view_is (edit_of c.args.edit.now) c.requires.allowed in
    (c.put_still.ensures.counted.valued_least, omega (arith, c.put_still.ensures.counted.valued_few, most))

pub returns-in-Err-clause-encoded : goal.returns-in-Err-clause-encoded
returns-in-Err-clause-encoded g c =
    let most = few c.self.inside.base c.self.inside.names c.self.inside.survey c.self.inside.items.items c.self.invariant c.args.self.now c.self.view_is (edit_of c.args.edit.now) c.requires.allowed in
    (c.put_still.ensures.counted.encoded_least, omega (arith, c.put_still.ensures.counted.encoded_few, most))

pub returns-in-Ok-clause-valued : goal.returns-in-Ok-clause-valued
returns-in-Ok-clause-valued g c =
    let most = few c.self.inside.base c.self.inside.names c.self.inside.survey c.self.inside.items.items c.self.invariant c.args.self.now c.self.view_is (edit_of c.args.edit.now) c.requires.allowed in
    (c.put_still.ensures.counted.valued_least, omega (arith, c.put_still.ensures.counted.valued_few, most))

pub returns-in-Ok-clause-encoded : goal.returns-in-Ok-clause-encoded
returns-in-Ok-clause-encoded g c =
    let most = few c.self.inside.base c.self.inside.names c.self.inside.survey c.self.inside.items.items c.self.invariant c.args.self.now c.self.view_is (edit_of c.args.edit.now) c.requires.allowed in
    (c.put_still.ensures.counted.encoded_least, omega (arith, c.put_still.ensures.counted.encoded_few, most))

pub returns-in-Ok-clause-values : goal.returns-in-Ok-clause-values
returns-in-Ok-clause-values g c =
    let count = g.C.Count.valued_count in
    let edit = edit_of c.args.edit.now in
    by-text c.self.inside.base c.self.inside.names c.self.inside.survey c.self.inside.items.items c.self.invariant c.args.self.now c.self.view_is
    (λ b ls. count c.put_still.new.counter + shape_operands edit ≤ count c.args.counter.now + most_values b ls edit) c.put_still.ensures.counted.valued_most

pub returns-in-Err-clause-values : goal.returns-in-Err-clause-values
returns-in-Err-clause-values g c =
    let count = g.C.Count.valued_count in
    let edit = edit_of c.args.edit.now in
    by-text c.self.inside.base c.self.inside.names c.self.inside.survey c.self.inside.items.items c.self.invariant c.args.self.now c.self.view_is
    (λ b ls. count c.put_still.new.counter + shape_operands edit ≤ count c.args.counter.now + most_values b ls edit) c.put_still.ensures.counted.valued_most

pub returns-in-Ok-clause-codes : goal.returns-in-Ok-clause-codes
returns-in-Ok-clause-codes g c =
    let count = g.C.Count.encoded_count in
    let edit = edit_of c.args.edit.now in
    by-text c.self.inside.base c.self.inside.names c.self.inside.survey c.self.inside.items.items c.self.invariant c.args.self.now c.self.view_is
    (λ b ls. count c.put_still.new.counter ≤ count c.args.counter.now + most_codes b ls edit) c.put_still.ensures.counted.encoded_most

pub returns-in-Err-clause-codes : goal.returns-in-Err-clause-codes
returns-in-Err-clause-codes g c =
    let count = g.C.Count.encoded_count in
    let edit = edit_of c.args.edit.now in
    by-text c.self.inside.base c.self.inside.names c.self.inside.survey c.self.inside.items.items c.self.invariant c.args.self.now c.self.view_is
    (λ b ls. count c.put_still.new.counter ≤ count c.args.counter.now + most_codes b ls edit) c.put_still.ensures.counted.encoded_most

pub take_back-requires : goal.take_back-requires
take_back-requires g c =
    let next = within-next c.requires.still.still in
    omega (arith, next, length-program c.args.self.now.lines, ap (λ t. length t.lines) c.self.view_is, c.place.ensures.value, c.self.invariant.few)
