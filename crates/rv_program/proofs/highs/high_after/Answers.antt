use Rattle.std.proofs.Common.{◌≡◌, ◌-◌, true, arith, sym, ◌∙◌, refl}
use Rattle.std.specs.Option.{is_some}
use Rattle.rv_program.specs.internal.Before.{base_before, lines_before, edit_on}
use Rattle.rv_program.specs.Pairs.{pcrel_high_of}
use Rattle.rv_program.specs.Program.{body_at}
use Rattle.rv_program.specs.internal.TextRows.{program_in}
use Rattle.rv_program.specs.internal.Work.{high_operands}
use Rattle.rv_program.proofs.HighLaws.{no-own, high-counted}
use Rattle.rv_program.specs.lemmas.WorkLaws.{work-up}
use Rattle.rv_program.proofs.highs.high_after.Goals as goal

pub returns-then-not-has_pcrel_high-clause-value : goal.returns-then-not-has_pcrel_high-clause-value
returns-then-not-has_pcrel_high-clause-value g c =
    let text = c.args.after.now.text in
    sym (no-own text.base (program_in text) c.args.line (sym c.has_pcrel_high.ensures ∙ c.if-not-has_pcrel_high.true))

pub returns-then-not-has_pcrel_high-clause-most : goal.returns-then-not-has_pcrel_high-clause-most
returns-then-not-has_pcrel_high-clause-most g c =
    let before = c.args.before.now in
    let more = work-up high_operands (base_before before) (lines_before before) (edit_on before) (c.args.line - 1) c.args.line (omega arith) in
    omega (arith, more)

pub returns-in-Some-clause-most : goal.returns-in-Some-clause-most
returns-in-Some-clause-most g c =
    let before = c.args.before.now in
    let more = work-up high_operands (base_before before) (lines_before before) (edit_on before) (c.args.line - 1) c.args.line (omega arith) in
    omega (arith, more)

pub returns-in-None-clause-most : goal.returns-in-None-clause-most
returns-in-None-clause-most g c =
    let before = c.args.before.now in
    let high : is_some (pcrel_high_of (body_at (program_in c.args.after.now.text) c.args.line)) ≡ true = sym c.has_pcrel_high.ensures ∙ c.if-not-has_pcrel_high.false in
    let one = high-counted before c.args.after.now.text c.args.line c.requires.after c.requires.first high (c.in-None.ensures.none refl) in
    omega (arith, one, c.high_on.ensures.most)
