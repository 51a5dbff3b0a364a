use Rattle.std.proofs.Common.{◌≡◌, ℕ, ◌≤◌, List, None, length, map, arith, ap, sym, subst, ◌∙◌, refl}
use Rattle.std.specs.List.{AllPass}
use Rattle.rv_program.specs.Changes.{changed_lines}
use Rattle.rv_program.specs.Counted.{counts_of}
use Rattle.rv_program.specs.Edits.{edit_of, edit_of_read}
use Rattle.rv_program.specs.internal.Former.{AreFormer}
use Rattle.rv_program.specs.internal.Items.{AreItems}
use Rattle.rv_program.specs.internal.NewShapes.{IsNewShape}
use Rattle.rv_program.specs.Program.{Program, program_of}
use Rattle.rv_store.specs.declared.survey.Survey.{Survey}
use Rattle.rv_store.specs.internal.Assembled.{AreCountedAfter}
use Rattle.rv_store.specs.internal.Column.{Listed}
use Rattle.rv_store.specs.internal.Surveys.{IsSurvey}
use Rattle.rv_program.specs.Text.{is_line, refusal_of, lines_after}
use Rattle.rv_store.proofs.EditRefusals.{lined_after, few_after}
use Rattle.rv_program.specs.lemmas.ShapeWork.{nothing-counted}
use Rattle.rv_store.proofs.Stores.{survey_grown}
use Rattle.rv_store.proofs.store.Store.assemble.Goals as goal

-- what is so of the rows of a text is so beside other lines
relined : (base : ℕ) (program : Program) (names : List (List ℕ)) (s : Survey) (lines : Listed) → IsSurvey base program names s → IsSurvey base program names (record { lines = lines; definitions = s.definitions; constants = s.constants; shapes = s.shapes; ends = s.ends; places = s.places; locals = s.locals; equ_values = s.equ_values; highs = s.highs })
relined base program names s lines is = record {
  definitions = is.definitions;
  constants = is.constants;
  shapes = is.shapes;
  limited = is.limited;
  ends = is.ends;
  places = is.places;
  locals = is.locals;
  equ_values = is.equ_values;
  highs = is.highs;
}

pub assembled-made-requires-clause-survey : goal.assembled-made-requires-clause-survey
assembled-made-requires-clause-survey g c =
    rw c.in_items.ensures (relined _ _ _ c.self.inside.survey _ c.self.invariant.surveyed)

pub assembled-made-requires-clause-lines : goal.assembled-made-requires-clause-lines
assembled-made-requires-clause-lines g c =
    let edit = edit_of c.args.edit.now in
    let edited : c.edit.new.self.items ≡ lines_after c.args.self.now.lines edit =
    c.in_ok-undo.ensures.lines
    ∙ ap (λ ls. lines_after ls (edit_of_read c.args.read)) (c.self.invariant.listed ∙ ap (λ t. t.lines) c.self.view_is)
    ∙ ap (lines_after c.args.self.now.lines) c.requires.read in
    c.requires.items ∙ sym edited

pub assembled-made-requires-clause-former : goal.assembled-made-requires-clause-former
assembled-made-requires-clause-former g c =
    rw c.in_items.ensures (subst (λ t. AreFormer t.base t.lines (edit_of c.args.edit.now) 0 c.args.items.items) (sym c.self.view_is) c.requires.former)

pub invariant_of-self-in-Ok : goal.invariant_of-self-in-Ok
invariant_of-self-in-Ok g c =
    let base = c.self.inside.base in
    let edit = edit_of c.args.edit.now in
    let former : List (List ℕ) = map (λ i. i.line) c.self.inside.items.items in
    let lines : List (List ℕ) = c.edit.new.self.items in
    let allowed : refusal_of former edit ≡ None = ap (λ t. refusal_of t.lines edit) c.self.view_is ∙ c.requires.allowed in
    let edited : lines ≡ lines_after former edit =
    c.in_ok-undo.ensures.lines ∙ ap (λ ls. lines_after ls (edit_of_read c.args.read)) c.self.invariant.listed ∙ ap (lines_after former) c.requires.read in
    let items = c.in-Ok.ensures.items in
    let now = subst (λ ls. IsSurvey base (program_of ls) c.assembled-made.new.names c.in-Ok.survey) (sym items.lines) c.in-Ok.ensures.survey in
    record {
      based = c.self.invariant.based;
      lined = subst (AllPass is_line) (sym (items.lines ∙ edited)) (lined_after former edit c.self.invariant.lined allowed);
      few = rw (items.lines ∙ edited) (few_after former edit c.self.invariant.few allowed);
      listed = ap (λ v. v.items) c.swap.ensures.x_after ∙ sym items.lines;
      surveyed = relined _ _ _ c.in-Ok.survey _ now;
      assembled = subst (λ ls. AreItems base ls c.in-Ok.items.items) (sym items.lines) items;
    }

pub invariant_of-self-in-Err : goal.invariant_of-self-in-Err
invariant_of-self-in-Err g c =
    let now = survey_grown _ _ _ _ _ c.assembled-made.ensures.names c.self.invariant.surveyed in
    record {
      based = c.self.invariant.based;
      lined = c.self.invariant.lined;
      few = c.self.invariant.few;
      listed = c.take_back.ensures ∙ c.in_ok-undo.ensures.back ∙ c.self.invariant.listed;
      surveyed = relined _ _ _ c.self.inside.survey _ now;
      assembled = c.self.invariant.assembled;
    }

pub returns-in_err-undo-clause-counted : goal.returns-in_err-undo-clause-counted
returns-in_err-undo-clause-counted g c = record {
  parsed = refl;
  valued_least = omega arith;
  valued_few = omega arith;
  valued_most = omega (arith, nothing-counted c.args.self.now.base c.args.self.now.lines (edit_of c.args.edit.now) c.requires.allowed);
  encoded_least = omega arith;
  encoded_few = omega arith;
  encoded_most = omega arith;
}

pub invariant_of-self : goal.invariant_of-self
invariant_of-self g c = record {
  based = c.self.invariant.based;
  lined = c.self.invariant.lined;
  few = c.self.invariant.few;
  listed = c.in_err-undo.ensures.stay ∙ c.self.invariant.listed;
  surveyed = relined _ _ _ c.self.inside.survey _ c.self.invariant.surveyed;
  assembled = c.self.invariant.assembled;
}

pub assembled-made-requires-clause-few : goal.assembled-made-requires-clause-few
assembled-made-requires-clause-few g c =
    let edit = edit_of c.args.edit.now in
    let former : List (List ℕ) = map (λ i. i.line) c.self.inside.items.items in
    let allowed : refusal_of former edit ≡ None = ap (λ t. refusal_of t.lines edit) c.self.view_is ∙ c.requires.allowed in
    let edited : c.edit.new.self.items ≡ lines_after former edit =
    c.in_ok-undo.ensures.lines ∙ ap (λ ls. lines_after ls (edit_of_read c.args.read)) c.self.invariant.listed ∙ ap (lines_after former) c.requires.read in
    subst (λ ls. length ls ≤ 16384) (sym edited) (few_after former edit c.self.invariant.few allowed)

pub assembled-made-requires-clause-shape : goal.assembled-made-requires-clause-shape
assembled-made-requires-clause-shape g c =
    let edit = edit_of c.args.edit.now in
    subst (λ ls. IsNewShape ls edit c.args.shape) (sym c.in_items.ensures) (subst (λ t. IsNewShape t.lines edit c.args.shape) (sym c.self.view_is) c.requires.shape)

pub returns-in-Ok-clause-ok : goal.returns-in-Ok-clause-ok
returns-in-Ok-clause-ok g c =
    let old = c.args.self.now in
    let edit = edit_of c.args.edit.now in
    let lines : map (λ i. i.line) c.in-Ok.items.items ≡ lines_after old.lines edit =
    c.in-Ok.ensures.items.lines ∙ c.in_ok-undo.ensures.lines
    ∙ ap (λ ls. lines_after ls (edit_of_read c.args.read)) (c.self.invariant.listed ∙ ap (λ t. t.lines) c.self.view_is)
    ∙ ap (lines_after old.lines) c.requires.read in
    λ j. record { base = (c.self.view_is j).base; lines = lines j }

pub returns-in-Ok-clause-changed : goal.returns-in-Ok-clause-changed
returns-in-Ok-clause-changed g c =
    let edit = edit_of c.args.edit.now in
    c.in-Ok.ensures.changed ∙ ap (λ ls. changed_lines c.self.inside.base ls edit) c.in_items.ensures ∙ ap (λ t. changed_lines t.base t.lines edit) c.self.view_is

pub returns-in-Ok-clause-counted : goal.returns-in-Ok-clause-counted
returns-in-Ok-clause-counted g c =
    let counts = counts_of g.C.Count.parsed_count g.C.Count.valued_count g.C.Count.encoded_count in
    let edit = edit_of c.args.edit.now in
    subst (λ t. AreCountedAfter t.base t.lines edit (counts c.args.counter.now) (counts c.assembled-made.new.counter)) c.self.view_is
    (subst (λ ls. AreCountedAfter c.self.inside.base ls edit (counts c.args.counter.now) (counts c.assembled-made.new.counter)) c.in_items.ensures c.assembled-made.ensures.counted)

pub returns-in-Err-clause-counted : goal.returns-in-Err-clause-counted
returns-in-Err-clause-counted g c =
    let counts = counts_of g.C.Count.parsed_count g.C.Count.valued_count g.C.Count.encoded_count in
    let edit = edit_of c.args.edit.now in
    subst (λ t. AreCountedAfter t.base t.lines edit (counts c.args.counter.now) (counts c.assembled-made.new.counter)) c.self.view_is
    (subst (λ ls. AreCountedAfter c.self.inside.base ls edit (counts c.args.counter.now) (counts c.assembled-made.new.counter)) c.in_items.ensures c.assembled-made.ensures.counted)
