use Rattle.std.proofs.Common.{arith, ap, sym, ◌∙◌}
use Rattle.std.proofs.lemmas.List.{get_or_default}
use Rattle.rv_list.specs.declared.view.DefinitionPlace.TheVariants.{Nowhere}
use Rattle.rv_program.specs.internal.Defining.{is_up_to}
use Rattle.rv_program.specs.lemmas.DefinitionRows.{defined-here}
use Rattle.rv_program.proofs.definitions.define.Goals as goal

pub returns-then-not-is_up_to-clause-row : goal.returns-then-not-is_up_to-clause-row
returns-then-not-is_up_to-clause-row c =
    defined-here c.args.names.now c.args.row.now.items c.args.name.now c.in-Some.number c.args.line c.args.place (sym c.number.ensures.number ∙ c.in-Some.is) (omega (arith, c.in-Some.ensures.below, c.requires.as_many)) c.requires.here
    (ap (is_up_to c.args.line) (get_or_default c.args.row.now.items c.in-Some.number Nowhere c.index.result.now (omega (arith, c.in-Some.ensures.below, c.requires.as_many)) ∙ sym c.index.ensures) ∙ sym c.is_up_to.ensures ∙ c.if-not-is_up_to.true)
