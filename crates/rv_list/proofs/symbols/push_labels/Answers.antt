use Rattle.std.proofs.Common.{length, arith, ap, refl}
use Rattle.std.proofs.lemmas.Grind.{common_steps}
use Rattle.std.proofs.lemmas.Result.{err_from_is_err_and}
use Rattle.rv_stmt.specs.LentLabels.{label_lent}
use Rattle.rv_text.specs.Halfway.{halfway_start}
use Rattle.rv_list.proofs.SymbolRows.{lost_label, gathered_label}
use Rattle.rv_list.proofs.symbols.push_labels.Goals as goal

pub labels-init : goal.labels-init
labels-init g c = record {
  half = halfway_start (g.W.Sink.taken c.args.sink.now) c.args.block.now _;
  failures = refl;
  passed = omega arith;
}

pub returns-in_err-push_label-clause-text : goal.returns-in_err-push_label-clause-text
returns-in_err-push_label-clause-text g c =
    let p = err_from_is_err_and c.from_residual.result c.from_residual.ensures.1 in
    rw p.1 (lost_label (g.V.View.shown c.args.view.now) c.args.line c.args.address c.labels.index c.labels.labels c.in-Some.later (label_lent c.in-Some.label) _ _ _ _ _ _ c.in-Some.ensures.some c.labels.invariant.half c.in_err-push_label.ensures.text)

pub labels-preserved : goal.labels-preserved
labels-preserved g c = record {
  half = gathered_label (g.V.View.shown c.args.view.now) c.args.line c.args.address c.labels.index c.labels.labels c.in-Some.later (label_lent c.in-Some.label) _ _ _ _ _ _ _ c.in-Some.ensures.some c.labels.invariant.half c.in_ok-push_label.ensures.text;
  failures = grind (arith, common_steps, c.in_ok-push_label.ensures.count);
  passed = omega (arith, ap length c.in-Some.ensures.some, c.labels.invariant.passed);
}
