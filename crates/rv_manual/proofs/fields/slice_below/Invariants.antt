use Rattle.std.proofs.Common.{◌≡◌, length, IsTrue}
use Rattle.std.specs.List.{list_all}
use Rattle.rv_ops.specs.Room.{is_slice}
use Rattle.rv_manual.specs.Fields.{slice_below}
use Rattle.rv_manual.proofs.fields.slice_below.Given as goal

-- what is left decides
abbrev pub invariant-slices : goal.invariant-slices
invariant-slices l = record {
  placed : IsTrue (list_all is_slice l.slices);
  rest : slice_below l.end l.slices ≡ slice_below l.end l.fn.slices;
}

abbrev pub decreases-slices : goal.decreases-slices
decreases-slices l = length l.slices
