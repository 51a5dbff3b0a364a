use Rattle.std.proofs.Common.{ap, sym, subst}
use Rattle.std.specs.Option.{is_some}
use Rattle.rv_stmt.specs.LentLabels.{label_lent, name_lent}
use Rattle.rv_program.specs.internal.Defining.{IsLabelNumbered, AreLabelsNumbered}
use Rattle.rv_program.specs.lemmas.NameRows.{grows-refl, grows-trans}
use Rattle.rv_program.proofs.NumberedNames.{next-numbered}
use Rattle.rv_program.proofs.definitions.number_labels.Goals as goal

pub labels-preserved-in_ok-intern-in-Symbol : goal.labels-preserved-in_ok-intern-in-Symbol
labels-preserved-in_ok-intern-in-Symbol c = record {
  names = grows-trans c.args.names.now c.labels.names c.intern.new.self c.labels.invariant.names c.intern.ensures.grows;
  numbered = next-numbered c.labels.names c.intern.new.self c.labels.labels c.in-Some.later c.args.labels (label_lent c.in-Some.label) c.intern.ensures.grows c.in-Some.ensures.some
      (subst (λ n. IsLabelNumbered c.intern.new.self (name_lent n)) (sym c.in-Symbol.is) (ap is_some c.in_ok-intern-in-Symbol.ensures.number)) c.labels.invariant.numbered;
}

pub labels-preserved : goal.labels-preserved
labels-preserved c = record {
  names = c.labels.invariant.names;
  numbered = next-numbered c.labels.names c.labels.names c.labels.labels c.in-Some.later c.args.labels (label_lent c.in-Some.label) (grows-refl c.labels.names) c.in-Some.ensures.some
      (subst (λ n. IsLabelNumbered c.labels.names (name_lent n)) (sym c.in-Local.is) tt) c.labels.invariant.numbered;
}

pub returns-clause-numbered : goal.returns-clause-numbered
returns-clause-numbered c = c.labels.invariant.numbered c.labels.names (grows-refl c.labels.names) (subst (AreLabelsNumbered c.labels.names) (sym c.in_default.ensures.none) tt)

pub returns-in_err-intern-in-Symbol-clause-names : goal.returns-in_err-intern-in-Symbol-clause-names
returns-in_err-intern-in-Symbol-clause-names c =
    grows-trans c.args.names.now c.labels.names c.intern.new.self c.labels.invariant.names c.intern.ensures.grows
