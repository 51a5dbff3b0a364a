use Rattle.std.proofs.Common.{IfOk, ap, subst}
use Rattle.rv_list.specs.declared.view.DefinitionPlace.TheVariants.{Nowhere}
use Rattle.rv_program.specs.Edits.{edit_of}
use Rattle.rv_program.specs.internal.Rows.{in_row, HoldsByName}
use Rattle.rv_program.specs.lemmas.MovedDefinitionLaws.{put_in-inserted, put_in-replaced}
use Rattle.rv_program.proofs.moved_definitions.define_put_in.Goals as goal

pub returns-in-Insert-clause-row : goal.returns-in-Insert-clause-row
returns-in-Insert-clause-row c =
    let k = c.in-Insert.k in
    let line = c.index-lines-k.result in
    let before = in_row c.args.names.now c.args.row.now.items Nowhere in
    let same = put_in-inserted c.args.old.now c.args.lines.now (edit_of c.args.edit.now) k c.in-Insert.field-1.now line before (ap edit_of c.in-Insert.is) c.requires.allowed c.requires.edited c.index-lines-k.is in
    subst (λ f. IfOk c.define_with_numbers.result (λ _. HoldsByName c.define_with_numbers.new.names c.define_with_numbers.new.row.items Nowhere f)) same c.define_with_numbers.ensures.row

pub returns-in-Replace-clause-row : goal.returns-in-Replace-clause-row
returns-in-Replace-clause-row c =
    let k = c.in-Replace.k in
    let line = c.index-lines-k-in-Replace.result in
    let before = in_row c.args.names.now c.args.row.now.items Nowhere in
    let same = put_in-replaced c.args.old.now c.args.lines.now (edit_of c.args.edit.now) k c.in-Replace.field-1.now line before (ap edit_of c.in-Replace.is) c.requires.allowed c.requires.edited c.index-lines-k-in-Replace.is in
    subst (λ f. IfOk c.define_with_numbers-in-Replace.result (λ _. HoldsByName c.define_with_numbers-in-Replace.new.names c.define_with_numbers-in-Replace.new.row.items Nowhere f)) same c.define_with_numbers-in-Replace.ensures.row
