use Rattle.std.proofs.Common.{◌≡◌, ◌≤◌, ◌==◌, length, arith, ap, sym, ◌∙◌}
use Rattle.std.proofs.lemmas.Bool.{not-true}
use Rattle.rv_program.specs.internal.Before.{base_before}
use Rattle.rv_program.specs.Layout.{size_at}
use Rattle.rv_program.specs.Pairs.{high_at}
use Rattle.rv_program.specs.internal.TextRows.{program_in}
use Rattle.rv_program.proofs.CarriedLines.{carried-high}
use Rattle.rv_program.proofs.HighLaws.{high-kept, high-size}
use Rattle.rv_program.proofs.LinePairLaws.{stood-before, body-before, invalidated-by_uses}
use Rattle.rv_program.specs.lemmas.Programs.{length-program}
use Rattle.rv_program.proofs.highs.has_same_high.Goals as goal

pub moved_together-requires-clause-first_stood : goal.moved_together-requires-clause-first_stood
moved_together-requires-clause-first_stood c =
    (stood-before c.args.before.now c.args.after.now.text c.args.line c.args.stood c.requires.before c.requires.after c.requires.first c.requires.last c.requires.stood).first

pub moved_together-requires-clause-last_stood : goal.moved_together-requires-clause-last_stood
moved_together-requires-clause-last_stood c =
    (stood-before c.args.before.now c.args.after.now.text c.args.line c.args.stood c.requires.before c.requires.after c.requires.first c.requires.last c.requires.stood).last

pub returns-then-moved_together-clause-same : goal.returns-then-moved_together-clause-same
returns-then-moved_together-clause-same c = λ h.
    carried-high c.args.before.now c.args.after.now.text c.args.line c.args.stood c.requires.before c.requires.after c.requires.first c.requires.last c.requires.stood
    c.args.differing.now c.requires.differing c.brief_on-brief.result c.brief_on-brief.ensures (c.moved_together.ensures c.if-moved_together.true) c.if-brief.true c.requires.high

pub returns-clause-same : goal.returns-clause-same
returns-clause-same c = λ h.
    let before = c.args.before.now in
    let after = c.args.after.now.text in
    let line = c.args.line in
    let stood = c.args.stood in
    let old = program_in before.symbols.text in
    let new = program_in after in
    let there = stood-before before after line stood c.requires.before c.requires.after c.requires.first c.requires.last c.requires.stood in
    let body = body-before before after line stood c.requires.before c.requires.after c.requires.first c.requires.last c.requires.stood in
    let uses = sym (invalidated-by_uses before after line stood c.requires.before c.requires.after c.requires.first c.requires.last c.requires.stood) ∙ sym c.is_line_invalidated.ensures ∙ not-true c.is_line_invalidated.result h in
    let last : line ≤ length new = omega (arith, c.requires.last, length-program after.lines.now) in
    let last' : stood ≤ length old = omega (arith, there.last, length-program before.symbols.text.lines.now) in
    let size : size_at new line ≡ size_at old stood = high-size (base_before before) old new line stood c.requires.first last there.first last' body c.requires.high uses in
    record {
      bytes = ap (λ n. n == 0) (sym size) ∙ c.requires.bytes;
      high = ap (λ base. high_at base new line) c.requires.after.base ∙ high-kept (base_before before) old new line stood body uses;
    }
