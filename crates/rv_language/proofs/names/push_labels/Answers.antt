use Rattle.std.proofs.Common.{length, arith, ap, ◌∙◌}
use Rattle.rv_stmt.specs.LentLabels.{label_lent}
use Rattle.rv_language.proofs.LineNames.{next_label}
use Rattle.rv_language.proofs.names.push_labels.Goals as goal

pub labels-preserved : goal.labels-preserved
labels-preserved c = record {
  added = next_label c.labels.index c.labels.labels c.in-Some.later (label_lent c.in-Some.label) c.labels.names.items c.push.new.self.items c.in-Some.ensures.some c.in_ok-push.ensures.items ∙ c.labels.invariant.added;
  passed = omega (arith, ap length c.in-Some.ensures.some, c.labels.invariant.passed);
}
