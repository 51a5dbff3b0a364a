use Rattle.std.proofs.Common.{◌≡◌, ◌-◌, length, get_or, arith, ap, subst, ◌∙◌, refl}
use Rattle.rv_store.specs.internal.Ends.{ends_of}
use Rattle.rv_program.specs.Program.{program_of}
use Rattle.rv_store.specs.internal.Surveys.{IsSurvey}
use Rattle.rv_store.proofs.AlikeTexts.{replaced-put, alike-line}
use Rattle.rv_program.specs.lemmas.EarlierLines.{replace_within}
use Rattle.rv_store.proofs.StillRows.{count-places}
use Rattle.rv_program.specs.lemmas.TextLines.{statement_of_line, shape_of_line, place_of_line}
use Rattle.rv_store.proofs.store.Store.alike.Goals as goal

pub index-requires-2 : goal.index-requires-2
index-requires-2 c =
    let within = replace_within c.args.self.now.lines c.args.k c.args.line.now c.requires.allowed in
    let count = count-places c.self.inside.base _ c.self.inside.names c.self.inside.survey c.self.invariant.surveyed in
    omega (arith, within.0, within.1, count, ap (λ t. length t.lines) c.self.view_is)

pub returns-clause-edit : goal.returns-clause-edit
returns-clause-edit c =
    let within = replace_within c.args.self.now.lines c.args.k c.args.line.now c.requires.allowed in
    replaced-put c.args.self.now.lines c.args.k c.args.line.now within.0 within.1

pub returns-clause-still : goal.returns-clause-still
returns-clause-still c =
    let old = c.args.self.now in
    let k = c.args.k in
    let survey = c.self.inside.survey in
    let within = replace_within old.lines k c.args.line.now c.requires.allowed in
    let lines : survey.lines.items ≡ old.lines = c.self.invariant.listed ∙ ap (λ t. t.lines) c.self.view_is in
    let surveyed : IsSurvey old.base (program_of old.lines) c.self.inside.names survey = subst (λ t. IsSurvey t.base (program_of t.lines) c.self.inside.names survey) c.self.view_is c.self.invariant.surveyed in
    let there = statement_of_line old.lines k c.index-as_slice-place.result within.1 within.0 (c.index-as_slice-place.is ∙ ap (λ ls. get_or ls (k - 1) c.index-as_slice-place.result) (c.as_slice.ensures ∙ lines)) in
    let shape = c.index.ensures ∙ shape_of_line old.lines survey.shapes.items k c.index.result.now surveyed.shapes within.0 within.1 in
    let place = c.index-2.ensures ∙ place_of_line old.base old.lines survey.places.items k c.index-2.result.now surveyed.places within.0 within.1 in
    let alike = c.are_alike.ensures (program_of old.lines) k there shape c.requires.shape c.if-not-are_alike.false in
    alike-line old.base old.lines k c.args.line.now _ within.0 within.1 alike c.requires.shape c.requires.limited (surveyed.ends ∙ ap ends_of surveyed.shapes) place refl refl
