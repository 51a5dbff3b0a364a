use Rattle.std.proofs.Common.{ap, sym, ◌∙◌}
use Rattle.rv_list.specs.declared.view.DefinitionPlace.TheVariants.{Nowhere}
use Rattle.rv_program.specs.internal.Rows.{entry_at}
use Rattle.rv_program.proofs.symbol_rows.SymbolRows.definition_of.Goals as goal

pub returns : goal.returns
returns c =
    λ name numbered.
    c.entry_at.ensures ∙ ap (entry_at c.args.self.now.text.definitions.now Nowhere) (sym numbered) ∙ ap (λ f. f name) c.requires.defined.each
