use Rattle.std.proofs.Common.{◌≡◌, true, ap, sym, ◌∙◌, arith}
use Rattle.std.proofs.lemmas.Bool.Decides.{nat_tests}
use Rattle.std.specs.Prelude.{nat_le}
use Rattle.rv_list.specs.Shown.{Shown, shown_line}
use Rattle.rv_language.proofs.definition.put_definition.Goals as goal

pub returns : goal.returns
returns g c =
    let shown = g.V.View.shown c.args.view.now in
    let number = c.definition_line-number.result in
    let above : nat_le 1 number ≡ true = grind (arith, nat_tests, c.in-Some.ensures.first) in
    let within : nat_le number shown.count ≡ true = grind (arith, nat_tests, c.in-Some.ensures.last) in
    let line : shown_line c.line.result ≡ shown.line number = c.line.ensures.value ∙ ap (λ (s : Shown). s.line (g.V.Lines.LineSource.passed c.in-Some.lines)) c.in-Some.ensures.text ∙ ap (λ n. shown.line n) c.in-Some.ensures.passed in
    rw (sym c.definition_line-number.ensures, above, within, sym line) c.put_defined.ensures
