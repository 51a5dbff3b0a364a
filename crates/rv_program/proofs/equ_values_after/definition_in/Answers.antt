use Rattle.std.proofs.Common.{ap, sym, ◌∙◌}
use Rattle.rv_list.specs.declared.view.DefinitionPlace.TheVariants.{Nowhere}
use Rattle.rv_program.specs.internal.Rows.{entry_at}
use Rattle.rv_program.proofs.equ_values_after.definition_in.Goals as goal

pub returns : goal.returns
returns c =
    λ name numbered.
    c.entry_at.ensures ∙ ap (entry_at c.args.text.now.definitions.now Nowhere) (sym numbered) ∙ ap (λ f. f name) c.requires.defined.each
