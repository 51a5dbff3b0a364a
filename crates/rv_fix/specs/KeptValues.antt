-- The values that are kept of a line's operands.
use Rattle.std.specs.Prelude.{List}
use Rattle.rv_fix.specs.declared.values.Kept.{Kept}
use Rattle.rv_fix.specs.declared.values.Kept.TheVariants.{One, Several}
use Rattle.rv_fix.specs.Values.{Entry}

abbrev pub entries_of : Kept → List Entry
entries_of (One entries) = entries
entries_of (Several entries) = entries
