use Rattle.std.proofs.Common.{◌+◌, ◌<◌, arith, ap, sym, ◌∙◌}
use Rattle.std.proofs.lemmas.Bool.Decides.{nat_tests}
use Rattle.rv_list.specs.Later.{bytes_left}
use Rattle.rv_list.proofs.LaterLines.{next_line}
use Rattle.rv_list.proofs.bytes_left.SectionBytes.next.Goals as goal

pub finding-preserved : goal.finding-preserved
finding-preserved g c =
    let now = c.finding.self-inside in
    let before = c.finding.invariant in
    let shown = g.V.Lines.LineSource.shown now.lines in
    let within : now.passed < shown.count = grind (arith, nat_tests, c.if-self.false, before.within, before.lines) in
    record {
      left =
          ap (λ text. bytes_left text now.section (now.passed + 1) 0) c.advance.ensures.text
          ∙ next_line shown now.section now.passed now.taken c.in_default.ensures.value within
          ∙ before.left;
      passed = omega (arith, before.passed, c.advance.ensures.passed);
      lines = before.lines ∙ sym (ap (λ text. text.count) c.advance.ensures.text);
      within = omega (arith, within, before.lines);
    }
