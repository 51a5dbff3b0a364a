use Rattle.std.proofs.Common.{ap, sym, if◌then◌else◌, ◌∙◌}
use Rattle.rv_program.specs.Edits.{edit_of}
use Rattle.rv_program.specs.internal.MovedDefinitions.{line_after_edit, moved_place, found_after}
use Rattle.rv_program.specs.lemmas.NameRows.{number-same}
use Rattle.rv_program.proofs.moved_definitions.place_after.Goals as goal

pub returns-then-takes_out : goal.returns-then-takes_out
returns-then-takes_out c name named =
    let edit = edit_of c.args.edit.now in
    let lines = c.args.searched.now in
    c.found_after.ensures
    ∙ ap (found_after edit lines) (number-same c.args.names.now c.name.result.now name c.args.number c.name.ensures named)
    ∙ sym (ap (λ t. if t then found_after edit lines name else moved_place (line_after_edit edit) c.args.place) (sym c.takes_out.ensures ∙ c.if-takes_out.true))
