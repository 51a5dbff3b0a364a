use Rattle.std.proofs.Common.{ap, sym, ◌∙◌}
use Rattle.rv_list.specs.declared.view.DefinitionPlace.TheVariants.{Nowhere}
use Rattle.rv_program.specs.internal.Defining.{also_on}
use Rattle.rv_program.specs.Definitions.{definition_of}
use Rattle.rv_program.specs.Edits.{edit_of, place_of_edit}
use Rattle.rv_program.specs.internal.MovedDefinitions.{kept_after, put_in}
use Rattle.rv_program.specs.Program.{program_of}
use Rattle.rv_program.specs.Text.{lines_after}
use Rattle.rv_program.specs.internal.Rows.{in_row}
use Rattle.rv_program.specs.lemmas.MovedDefinitionLaws.{definitions-after, place-first, place-within}
use Rattle.rv_program.proofs.moved_definitions.definitions_after.Goals as goal

pub keep_places-requires-clause-first : goal.keep_places-requires-clause-first
keep_places-requires-clause-first c = place-first c.args.old.now (edit_of c.args.edit.now) c.requires.allowed

pub keep_places-requires-clause-within : goal.keep_places-requires-clause-within
keep_places-requires-clause-within c = place-within c.args.old.now c.args.searched.now (edit_of c.args.edit.now) c.requires.edited c.requires.allowed

pub returns-clause-definitions : goal.returns-clause-definitions
returns-clause-definitions c =
    let old = c.args.old.now in
    let edit = edit_of c.args.edit.now in
    let row = c.in_ok-define_put_in.ensures.row in
    record {
      each = row.each
          ∙ ap (λ kept. also_on (place_of_edit edit) kept (put_in edit))
          (c.keep_places.ensures.row
          ∙ (λ i. kept_after edit (c.requires.edited i) (in_row c.args.names.now (c.in_ok-after.ensures.items i) Nowhere))
          ∙ ap (kept_after edit (lines_after old edit)) c.requires.row.each)
          ∙ definitions-after old edit c.requires.old_few c.requires.allowed
          ∙ ap (λ ls. definition_of (program_of ls)) (sym c.requires.edited);
      within = row.within;
    }
