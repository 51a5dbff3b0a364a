-- Labels as they are lent.
use Rattle.rv_stmt.specs.declared.label.Label.{Label as LentLabel}
use Rattle.rv_stmt.specs.declared.label.LabelName.{LabelName as LentName}
use Rattle.rv_stmt.specs.declared.label.LabelName.TheVariants as lent
use Rattle.rv_stmt.specs.LabelNames.{LabelName, Symbol, Local, Label}

abbrev pub name_lent : LentName → LabelName
name_lent (lent.Symbol name) = Symbol name.now
name_lent (lent.Local number) = Local number

abbrev pub label_lent : LentLabel → Label
label_lent label = record { name = name_lent label.name; span = label.span }
