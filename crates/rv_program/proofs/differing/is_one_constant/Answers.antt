use Rattle.std.proofs.Common.{None, arith, ap, sym, ◌∙◌}
use Rattle.rv_program.specs.internal.TextRows.{program_in}
use Rattle.rv_program.specs.internal.Rows.{number_of, entry_at}
use Rattle.rv_program.proofs.DifferingNames.{equ-within, same-line, one-by_none, one-by_equ}
use Rattle.rv_program.specs.lemmas.Programs.{length-program}
use Rattle.rv_program.specs.lemmas.SamenessLaws.{same_constant-Decides}
use Rattle.rv_program.proofs.differing.is_one_constant.Goals as goal

pub line_before-requires : goal.line_before-requires
line_before-requires c =
    let after = c.args.after.now in
    let (name, numbered) = c.requires.numbered in
    let within = equ-within (program_in after.text) name c.in-Some-Some.line (sym (c.equ_of.ensures name numbered) ∙ c.in-Some-Some.is-0) in
    let count = length-program after.text.lines.now in
    omega (arith, within, count, c.requires.after.few)

pub returns-in-None-None : goal.returns-in-None-None
returns-in-None-None c =
    λ t name numbered.
    let before = c.args.before.now in
    let after = c.args.after.now in
    let numbered' = ap (λ names. number_of names name) (sym c.requires.after.names) ∙ numbered in
    one-by_none before after c.requires.before c.requires.rows c.requires.after name (sym (c.equ_of.ensures name numbered) ∙ c.in-None-None.is-0)
    (sym (c.equ_of-2.ensures name numbered') ∙ c.in-None-None.is-1)

pub returns-then-eq : goal.returns-then-eq
returns-then-eq c =
    λ t name numbered.
    let before = c.args.before.now in
    let after = c.args.after.now in
    let line = c.in-Some-Some.line in
    let stood = c.in-Some-Some.stood in
    let numbered' = ap (λ names. number_of names name) (sym c.requires.after.names) ∙ numbered in
    let stays = sym c.line_before.ensures ∙ same-line c.line_before.result stood (sym c.eq.ensures ∙ c.if-eq.true) in
    let constant = ap (entry_at after.constants.now None) numbered ∙ sym c.entry_at.ensures in
    let constant' = ap (entry_at before.symbols.constants.now None) numbered' ∙ sym c.entry_at-then-eq.ensures in
    let same = (same_constant-Decides c.entry_at.result c.entry_at-then-eq.result).0 (sym c.eq-then-eq.ensures ∙ t) in
    one-by_equ before after c.requires.before c.requires.rows c.requires.after name line stood (sym (c.equ_of.ensures name numbered) ∙ c.in-Some-Some.is-0)
    (sym (c.equ_of-2.ensures name numbered') ∙ c.in-Some-Some.is-1) stays (constant ∙ same ∙ sym constant')
