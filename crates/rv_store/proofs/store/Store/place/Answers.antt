use Rattle.std.proofs.Common.{◌≡◌, ◌≤◌, length, map, arith, ◌∙◌}
use Rattle.rv_program.specs.Program.{program_of}
use Rattle.rv_program.specs.internal.Rows.{ArePlaces}
use Rattle.rv_program.specs.lemmas.TextLines.{length_of_places, place_of_line}
use Rattle.rv_store.proofs.store.Store.place.Goals as goal

pub index-requires : goal.index-requires
index-requires c =
    let lines = map (λ i. i.line) c.self.inside.items.items in
    let last : c.args.k ≤ length lines = rw (← c.self.view_is) at c.requires.last in
    let count : length c.self.inside.survey.places.items ≡ length lines = length_of_places c.self.inside.base lines c.self.inside.survey.places.items c.self.invariant.surveyed.places in
    omega (arith, c.requires.first, last, count, c.self.inside.survey.places.ok.0)

pub returns : goal.returns
returns c =
    let lines = c.args.self.now.lines in
    let places = c.self.inside.survey.places.items in
    let placed : ArePlaces c.args.self.now.base (program_of lines) places = rw (← c.self.view_is) c.self.invariant.surveyed.places in
    c.index.ensures ∙ place_of_line c.args.self.now.base lines places c.args.k c.index.result.now placed c.requires.first c.requires.last
