use Rattle.std.proofs.Common.{◌≡◌, length}
use Rattle.examples.specs.Tables.{known}
use Rattle.examples.proofs.table.known.Given as goal

-- the names so far are others
abbrev pub invariant-names : goal.invariant-names
invariant-names l = record {
  rest : known l.names l.name ≡ known l.fn.names l.name;
}

abbrev pub decreases-names : goal.decreases-names
decreases-names l = length l.names
