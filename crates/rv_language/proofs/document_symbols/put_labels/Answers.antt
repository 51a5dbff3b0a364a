use Rattle.std.proofs.Common.{length, arith, ap, ◌∙◌}
use Rattle.rv_stmt.specs.LentLabels.{label_lent}
use Rattle.rv_language.proofs.DocumentSymbols.{next_label}
use Rattle.rv_language.proofs.document_symbols.put_labels.Goals as goal

pub labels-preserved : goal.labels-preserved
labels-preserved g c = record {
  said =
      next_label c.args.context.now.encoding (g.V.View.shown c.args.view.now) c.args.number c.args.text.now c.labels.index c.labels.labels c.in-Some.later (label_lent c.in-Some.label) c.labels.m c.put_label.new.m c.in-Some.ensures.some c.in_ok-put_label.ensures
      ∙ c.labels.invariant.said;
  passed = omega (arith, ap length c.in-Some.ensures.some, c.labels.invariant.passed);
}
