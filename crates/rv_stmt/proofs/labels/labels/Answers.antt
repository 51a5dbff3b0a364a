use Rattle.std.proofs.Common.{◌+◌, ◌++◌, drop, append-nil, ap, ◌∙◌, sym}
use Rattle.rv_stmt.specs.Labels.{labels_and_body}
use Rattle.rv_stmt.proofs.LabelLemmas.{one_label, same_body, two_more, no_labels, body_here}
use Rattle.rv_stmt.proofs.labels.labels.Goals as goal

pub loop-label-preserved : goal.loop-label-preserved
loop-label-preserved c =
    let line = c.args.line.now in
    let place = c.loop-label.place in
    let found = sym c.in-Some.ensures in
    let pushed = c.in_ok-push.ensures.pushed in
    record {
      within = two_more line place _ found c.loop-label.invariant.within;
      labels =
          ap (λ ls. ls ++ (labels_and_body (drop (place + 2) line)).labels) pushed
          ∙ one_label line place _ found c.loop-label.labels
          ∙ c.loop-label.invariant.labels;
      body = same_body line place _ found ∙ c.loop-label.invariant.body;
    }

pub returns-clause-labels : goal.returns-clause-labels
returns-clause-labels c =
    let none = no_labels c.args.line.now c.loop-label.place (sym c.in_default.ensures) in
    sym (append-nil c.loop-label.labels)
    ∙ ap (λ ls. c.loop-label.labels ++ ls) (sym none)
    ∙ c.loop-label.invariant.labels

pub returns-clause-body : goal.returns-clause-body
returns-clause-body c =
    sym (body_here c.args.line.now c.loop-label.place (sym c.in_default.ensures))
    ∙ c.loop-label.invariant.body
