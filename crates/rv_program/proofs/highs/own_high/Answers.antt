use Rattle.std.proofs.Common.{arith, sym, ◌∙◌}
use Rattle.rv_program.specs.Pairs.{pcrel_high_of}
use Rattle.rv_program.specs.Program.{body_at}
use Rattle.rv_program.specs.internal.TextRows.{program_in}
use Rattle.rv_program.proofs.HighLaws.{no-own, some-high}
use Rattle.rv_program.proofs.highs.own_high.Goals as goal

pub returns-then-not-has_pcrel_high-clause-value : goal.returns-then-not-has_pcrel_high-clause-value
returns-then-not-has_pcrel_high-clause-value g c =
    let text = c.args.rows.now.text in
    sym (no-own text.base (program_in text) c.args.line (sym c.has_pcrel_high.ensures ∙ c.if-not-has_pcrel_high.true))

pub returns-clause-most : goal.returns-clause-most
returns-clause-most g c =
    let one = some-high (pcrel_high_of (body_at (program_in c.args.rows.now.text) c.args.line)) (sym c.has_pcrel_high.ensures ∙ c.if-not-has_pcrel_high.false) in
    omega (arith, one, c.high_on.ensures.most)

pub returns-clause-parsed : goal.returns-clause-parsed
returns-clause-parsed g c = c.high_on.ensures.parsed

pub returns-clause-encoded : goal.returns-clause-encoded
returns-clause-encoded g c = c.high_on.ensures.encoded
