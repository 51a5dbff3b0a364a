use Rattle.std.proofs.Common.{◌-◌, ◌≤◌, length, arith}
use Rattle.rv_program.specs.internal.TextRows.{program_in}
use Rattle.rv_program.specs.lemmas.Programs.{length-program}
use Rattle.rv_program.proofs.KeptEqus.{references-known}
use Rattle.rv_program.proofs.line_names.references_before.Goals as goal

pub returns : goal.returns
returns c =
    let text = c.args.text.now in
    let last : c.args.line ≤ length (program_in text) = omega (arith, c.requires.last, length-program text.lines.now) in
    references-known text c.args.equ_values.now (c.args.line - 1) c.requires.rows c.requires.values c.args.line c.requires.first last
