use Rattle.std.proofs.Common.{◌≤◌, length, arith, ap, ◌∙◌}
use Rattle.rv_program.specs.Program.{Program}
use Rattle.rv_program.specs.References.{names_on, symbol_through, no_pairs}
use Rattle.rv_program.specs.internal.TextRows.{program_in}
use Rattle.rv_program.specs.lemmas.LineNameLaws.{references_by-rows}
use Rattle.rv_program.specs.lemmas.Programs.{length-program}
use Rattle.rv_program.proofs.line_names.references_at.Goals as goal

pub returns : goal.returns
returns c =
    let text = c.args.text.now in
    let program : Program = program_in text in
    let last : c.args.line ≤ length program = omega (arith, c.requires.last, length-program text.lines.now) in
    references_by-rows text c.args.equ_values.now (length text.lines.now) c.args.line c.usable_equs.result c.requires.rows c.requires.values c.usable_equs.ensures.within last c.requires.first
    ∙ ap (λ usable. names_on text.base program c.args.line (symbol_through text.base program usable) no_pairs) c.usable_equs.ensures.lines
