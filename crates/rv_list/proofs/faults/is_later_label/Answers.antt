use Rattle.std.proofs.Common.{refl}
use Rattle.rv_list.proofs.faults.is_later_label.Goals as goal

pub returns-in-Symbol : goal.returns-in-Symbol
returns-in-Symbol g c = rw (c.is_label.ensures, c.definition.ensures, c.in-Symbol.is) refl
