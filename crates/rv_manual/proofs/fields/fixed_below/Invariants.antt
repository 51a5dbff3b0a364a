use Rattle.std.proofs.Common.{◌≡◌, length, IsTrue}
use Rattle.std.specs.List.{list_all}
use Rattle.rv_manual.specs.Fields.{fixed_below, is_stretch}
use Rattle.rv_manual.proofs.fields.fixed_below.Given as goal

-- what is left decides
abbrev pub invariant-stretches : goal.invariant-stretches
invariant-stretches l = record {
  placed : IsTrue (list_all is_stretch l.stretches);
  rest : fixed_below l.end l.stretches ≡ fixed_below l.end l.fn.stretches;
}

abbrev pub decreases-stretches : goal.decreases-stretches
decreases-stretches l = length l.stretches
