use Rattle.std.proofs.Common.{length, arith, ap, sym, subst, ◌∙◌}
use Rattle.rv_list.specs.declared.view.DefinitionPlace.TheVariants.{Nowhere}
use Rattle.rv_stmt.specs.LentLabels.{label_lent}
use Rattle.rv_program.specs.internal.Defining.{AreLabelsNumbered}
use Rattle.rv_program.specs.internal.Rows.{in_row}
use Rattle.rv_program.specs.lemmas.DefinitionRows.{labels-next, no_labels_left}
use Rattle.rv_program.proofs.definitions.define_labels.Goals as goal

pub loop-label-preserved : goal.loop-label-preserved
loop-label-preserved c =
    let names = c.args.names.now in
    let before = c.loop-label.invariant in
    record {
      each = labels-next (in_row names c.loop-label.row.items Nowhere) (in_row names c.define_label.new.row.items Nowhere) c.args.line c.loop-label.index c.loop-label.labels c.in-Some.later (label_lent c.in-Some.label) c.in-Some.ensures.some c.define_label.ensures.row
          ∙ before.each;
      as_many = c.define_label.ensures.as_many;
      numbered = (subst (AreLabelsNumbered names) c.in-Some.ensures.some before.numbered).1;
      count = omega (arith, ap length c.in-Some.ensures.some, before.count);
    }

pub returns-clause-row : goal.returns-clause-row
returns-clause-row c =
    sym (no_labels_left (in_row c.args.names.now c.loop-label.row.items Nowhere) c.args.line c.loop-label.index c.loop-label.labels c.in_default.ensures.none) ∙ c.loop-label.invariant.each
