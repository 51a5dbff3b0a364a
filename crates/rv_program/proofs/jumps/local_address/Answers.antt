use Rattle.std.proofs.Common.{◌≤◌, length, arith, ap, ◌∙◌}
use Rattle.rv_program.specs.internal.LineNames.{address_of_found}
use Rattle.rv_program.specs.internal.TextRows.{program_in}
use Rattle.rv_program.specs.lemmas.LineNameLaws.{local_by-rows}
use Rattle.rv_program.specs.lemmas.Programs.{length-program}
use Rattle.rv_program.proofs.jumps.local_address.Goals as goal

pub returns : goal.returns
returns c =
    let text = c.args.text.now in
    let last : c.args.line ≤ length (program_in text) = omega (arith, c.requires.last, length-program text.lines.now) in
    c.address_of_found.ensures ∙ ap (address_of_found text.places.now) c.line_near.ensures
    ∙ local_by-rows text c.args.line c.args.number c.args.direction c.requires.rows last
