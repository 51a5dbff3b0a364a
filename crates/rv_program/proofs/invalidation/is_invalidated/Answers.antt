use Rattle.std.proofs.Common.{◌≡◌, Some, sym, ◌∙◌}
use Rattle.rv_program.specs.internal.Before.{edit_on}
use Rattle.rv_program.specs.Edits.{line_before_edit}
use Rattle.rv_program.proofs.DifferingNames.{differing-on}
use Rattle.rv_program.proofs.LinePairLaws.{stood-before, body-before, invalidated-by_uses}
use Rattle.rv_program.proofs.invalidation.is_invalidated.Goals as goal

pub differs_in_uses-requires-clause-lines : goal.differs_in_uses-requires-clause-lines
differs_in_uses-requires-clause-lines c =
    let before = c.args.before.now in
    let after = c.args.after.now.text in
    let line = c.args.line in
    let stood = c.in-Some.stood in
    let stands : line_before_edit (edit_on before) line ≡ Some stood = sym c.line_before.ensures ∙ c.in-Some.is in
    let there = stood-before before after line stood c.requires.before c.requires.after c.requires.first c.requires.last stands in
    record {
      before = c.requires.before.symbols;
      after = c.requires.rows;
      few = c.requires.before.few;
      few_after = c.requires.after.few;
      base = c.requires.after.base;
      names = c.requires.after.names;
      first_stood = there.first;
      last_stood = there.last;
      first = c.requires.first;
      last = c.requires.last;
      body = body-before before after line stood c.requires.before c.requires.after c.requires.first c.requires.last stands;
    }

pub differs_in_uses-requires-clause-differing : goal.differs_in_uses-requires-clause-differing
differs_in_uses-requires-clause-differing c =
    let before = c.args.before.now in
    let stood = c.in-Some.stood in
    let stands : line_before_edit (edit_on before) c.args.line ≡ Some stood = sym c.line_before.ensures ∙ c.in-Some.is in
    differing-on before c.args.after.now.text c.args.line stood c.requires.before c.requires.after c.requires.first c.requires.last stands c.args.differing.now c.requires.differing

pub returns : goal.returns
returns c =
    let before = c.args.before.now in
    let stands : line_before_edit (edit_on before) c.args.line ≡ Some c.in-Some.stood = sym c.line_before.ensures ∙ c.in-Some.is in
    c.differs_in_uses.ensures
    ∙ sym (invalidated-by_uses before c.args.after.now.text c.args.line c.in-Some.stood c.requires.before c.requires.after c.requires.first c.requires.last stands)
