use Rattle.std.proofs.Common.{ap, sym, ◌∙◌}
use Rattle.std.specs.Option.{option_map}
use Rattle.rv_program.specs.internal.Before.{base_before, lines_before, edit_on}
use Rattle.rv_program.specs.Jumps.{target_of}
use Rattle.rv_program.specs.Pairs.{low_symbol_of, is_high_alone}
use Rattle.rv_program.specs.Program.{program_of, body_at}
use Rattle.rv_program.specs.Uses.{is_equ}
use Rattle.rv_program.proofs.DueLines.{due-low, due-high, due-other}
use Rattle.rv_program.proofs.due.is_other_due.Goals as goal

pub returns-in-Some : goal.returns-in-Some
returns-in-Some c =
    let before = c.args.before.now in
    let low = sym c.low_symbol_on.ensures ∙ ap (option_map (λ n. n.now)) c.in-Some.is in
    c.is_low_due.ensures
    ∙ due-low (base_before before) (lines_before before) (edit_on before) c.args.line c.in-Some.name.now
    (ap (λ lines. low_symbol_of (body_at (program_of lines) c.args.line)) (sym c.requires.after.lines) ∙ low)

pub returns-then-is_high_alone_on : goal.returns-then-is_high_alone_on
returns-then-is_high_alone_on c =
    let before = c.args.before.now in
    c.is_high_due.ensures
    ∙ due-high (base_before before) (lines_before before) (edit_on before) c.args.line
    (ap (λ lines. is_high_alone (body_at (program_of lines) c.args.line)) (sym c.requires.after.lines) ∙ sym c.is_high_alone_on.ensures ∙ c.if-is_high_alone_on.true)

pub returns : goal.returns
returns c =
    let before = c.args.before.now in
    let edited = ap program_of (sym c.requires.after.lines) in
    let low = sym c.low_symbol_on.ensures ∙ ap (option_map (λ n. n.now)) c.in_default.is in
    c.is_invalidated.ensures
    ∙ due-other (base_before before) (lines_before before) (edit_on before) c.args.line
    (ap (λ p. is_equ (body_at p c.args.line)) edited ∙ c.requires.equ)
    (ap (λ p. target_of (body_at p c.args.line)) edited ∙ c.requires.jump)
    (ap (λ p. low_symbol_of (body_at p c.args.line)) edited ∙ low)
    (ap (λ p. is_high_alone (body_at p c.args.line)) edited ∙ sym c.is_high_alone_on.ensures ∙ c.if-is_high_alone_on.false)
