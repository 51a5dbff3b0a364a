use Rattle.std.proofs.Common.{◌≡◌, ◌+◌, ◌<◌, ap, sym, ◌∙◌, arith}
use Rattle.std.specs.List.{list_any}
use Rattle.rv_list.specs.PassedLines.{passed_line}
use Rattle.rv_list.specs.Shown.{ShownLine}
use Rattle.rv_language.specs.Meanings.{has_local, is_local_label}
use Rattle.rv_language.proofs.LocalLabels.{before_found, before_passed, behind_kept, behind_passed}
use Rattle.rv_language.proofs.meaning.local_around.Goals.{then-has_local+else-k-at, else-has_local}
use Rattle.rv_language.proofs.meaning.local_around.Goals as goal

pub loop-k-preserved : goal.loop-k-preserved
loop-k-preserved g c =
    let shown = g.V.View.shown c.args.view.now in
    let has = has_local shown c.args.number in
    let k = c.loop-k.k in
    let line = passed_line c.line.ensures.value c.advance.ensures.text c.loop-k.invariant.text c.advance.ensures.passed c.loop-k.invariant.passed in
    let is : has (k + 1) ≡ c.has_local.result = ap (λ (l : ShownLine). list_any (is_local_label c.args.number) l.stmt.labels) (sym line) ∙ ap (list_any (is_local_label c.args.number)) (sym c.as_slice.ensures) ∙ sym c.has_local.ensures in
    let some : k < shown.count = omega (arith, c.loop-k-test.true, c.line_count-k-end.ensures.value) in
    let text = c.advance.ensures.text ∙ c.loop-k.invariant.text in
    elim c.if-has_local.branch [
      | then-has_local+else-k-at w ↦
          let before : k < c.args.at = omega (arith, w.if-k-at.false) in
          record {
            before = rw w.around-is (sym (before_found has c.args.at k before (is ∙ w.if-has_local.true)));
            behind = behind_kept has c.args.at k shown.count before ∙ c.loop-k.invariant.behind;
            none = rw w.around-is c.loop-k.invariant.none;
            text = text;
            passed = omega (arith, c.advance.ensures.passed, c.loop-k.invariant.passed);
          }
      | else-has_local w ↦
          let none = is ∙ w.if-has_local.false in
          record {
            before = rw w.around-is (c.loop-k.invariant.before ∙ sym (before_passed has c.args.at k none));
            behind = behind_passed has c.args.at k shown.count some none ∙ c.loop-k.invariant.behind;
            none = rw w.around-is c.loop-k.invariant.none;
            text = text;
            passed = omega (arith, c.advance.ensures.passed, c.loop-k.invariant.passed);
          }
    ]
