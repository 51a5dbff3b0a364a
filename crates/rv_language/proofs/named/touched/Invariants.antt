use Rattle.std.proofs.Common.{◌≡◌, length}
use Rattle.rv_language.specs.NamesAt.{first_touched}
use Rattle.rv_language.proofs.named.touched.Given as goal

-- the place touches none of the names so far
abbrev pub invariant-names : goal.invariant-names
invariant-names l = record {
  left : first_touched l.at l.names ≡ first_touched l.at l.fn.names;
}

abbrev pub decreases-names : goal.decreases-names
decreases-names l = length l.names
