use Rattle.std.proofs.Common.{◌≡◌, ℕ, List, not, Option, Some, None, arith, ap, sym, ◌∙◌}
use Rattle.std.specs.Option.{is_some}
use Rattle.std.proofs.lemmas.Bool.{not-true, not-false}
use Rattle.rv_program.specs.internal.Locals.{lines_with}
use Rattle.rv_store.specs.internal.Column.{taken_back}
use Rattle.rv_store.specs.internal.StillLines.{IsAt}
use Rattle.rv_store.proofs.StillRows.{back}
use Rattle.rv_store.proofs.survey.Survey.take_back.Goals as goal

pub returns-clause-lines : goal.returns-clause-lines
returns-clause-lines c old put former =
    let stay = c.take_locals.ensures.others in
    let place = c.args.place in
    record {
      lines = c.put_back.ensures ∙ ap (λ ls. taken_back ls place c.args.former.line) stay.lines ∙ back old.lines.items _ _ _ put.lines former.line;
      shapes = c.put_back-2.ensures ∙ ap (λ row. taken_back row place c.args.former.shape) stay.shapes ∙ back old.shapes.items _ _ _ put.shapes former.shape;
      ends = former.ends;
      places = c.put_back-3.ensures ∙ ap (λ row. taken_back row place c.args.former.place) stay.places ∙ back old.places.items _ _ _ put.places former.lies;
      locals = at c.args.former.line c.is_none.ensures former.line;
      highs = stay.highs ∙ put.highs;
    }
  where
    at : (line : Option (List ℕ)) → is_some line ≡ not c.is_none.result → IsAt old.lines.items c.args.place line → (number : ℕ) → lines_with c.take_locals.new.self.locals number ≡ lines_with old.locals number
    at None is stood number = c.take_locals.ensures.behind (not-false c.is_none.result (sym is)) number ∙ put.locals.behind (omega (arith, stood)) number
    at (Some line) is stood number = c.take_locals.ensures.within (not-true c.is_none.result (sym is)) number ∙ put.locals.within stood.0 number
