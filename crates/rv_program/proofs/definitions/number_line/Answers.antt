use Rattle.rv_program.specs.lemmas.NameRows.{grows-trans}
use Rattle.std.proofs.Common.{subst}
use Rattle.rv_program.specs.internal.Defining.{AreLabelsNumbered, IsNumbered}
use Rattle.rv_program.proofs.NumberedNames.{labels-grown}
use Rattle.rv_program.proofs.definitions.number_line.Goals as goal

pub returns-clause-numbered : goal.returns-clause-numbered
returns-clause-numbered c =
    subst (IsNumbered c.number_equ.new.names) c.stmt-stmt.ensures (
      labels-grown c.number_labels.new.names c.number_equ.new.names c.stmt-stmt.result.now.labels c.number_equ.ensures.names (subst (AreLabelsNumbered c.number_labels.new.names) c.as_slice.ensures c.in_ok-number_labels.ensures.numbered),
      c.in_ok-number_equ.ensures.numbered,
    )

pub returns-in_err-number_equ-clause-names : goal.returns-in_err-number_equ-clause-names
returns-in_err-number_equ-clause-names c =
    grows-trans c.args.names.now c.number_labels.new.names c.number_equ.new.names c.number_labels.ensures.names c.number_equ.ensures.names

pub returns-clause-names : goal.returns-clause-names
returns-clause-names c =
    grows-trans c.args.names.now c.number_labels.new.names c.number_equ.new.names c.number_labels.ensures.names c.number_equ.ensures.names
