use Rattle.std.proofs.Common.{arith, ap, sym, ◌∙◌}
use Rattle.rv_program.specs.Definitions.{equ_line}
use Rattle.rv_program.specs.internal.TextRows.{program_in}
use Rattle.rv_program.specs.lemmas.Programs.{length-program}
use Rattle.rv_program.proofs.DifferingNames.{equ-within}
use Rattle.rv_program.proofs.equ_values_after.is_by_former_equ.Goals as goal

pub line_before-requires : goal.line_before-requires
line_before-requires c =
    let text = c.args.text.now in
    let (name, numbered) = c.requires.numbered in
    let within = equ-within (program_in text) name c.in-Equ.line (ap equ_line (sym (c.definition_in.ensures name numbered) ∙ c.in-Equ.is)) in
    let count = length-program text.lines.now in
    omega (arith, within, count, c.requires.after.few)
