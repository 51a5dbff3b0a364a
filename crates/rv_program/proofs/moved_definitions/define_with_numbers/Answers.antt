use Rattle.std.proofs.Common.{◌≡◌, ◌≤◌, length, vec_len, arith, ap, ◌∙◌}
use Rattle.rv_stmt.specs.Statement.{statement_of}
use Rattle.rv_list.specs.declared.view.DefinitionPlace.TheVariants.{Nowhere}
use Rattle.rv_program.specs.internal.Defining.{also_on}
use Rattle.rv_program.specs.Definitions.{place_in_statement}
use Rattle.rv_program.specs.lemmas.NameRows.{grows-length, row-grown, row-placed}
use Rattle.rv_program.proofs.moved_definitions.define_with_numbers.Goals as goal

pub returns-clause-row : goal.returns-clause-row
returns-clause-row c =
    let names = c.number_line.new.names in
    let row = c.args.row.now.items in
    let longer = grows-length c.args.names.now names c.number_line.ensures.names in
    let within : length row ≤ length names = omega (arith, longer, c.requires) in
    let counted : vec_len c.args.row.now ≡ length row = omega (arith, c.args.row.now.ok.0) in
    let placed = row-placed names row c.resize.new.self.items Nowhere c.len.result _ c.in_ok-resize.ensures.items counted c.len.ensures within in
    record {
      each = c.define_line.ensures.row
          ∙ ap (λ f. also_on c.args.number f (place_in_statement c.args.number (statement_of c.args.line.now)))
          (placed.0 ∙ row-grown c.args.names.now names row Nowhere c.number_line.ensures.names c.requires);
      within = omega (arith, c.define_line.ensures.as_many);
    }
