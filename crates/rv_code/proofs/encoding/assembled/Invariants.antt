use Rattle.std.proofs.Common.{◌≡◌, ◌+◌, ◌≤◌, length, IsTrue}
use Rattle.std.specs.List.{list_all}
use Rattle.rv_ops.specs.Room.{is_slice, room}
use Rattle.rv_code.specs.Encoding.{bits_of_slices}
use Rattle.rv_code.proofs.encoding.assembled.Given as goal

abbrev pub invariant-loop-slices : goal.invariant-loop-slices
invariant-loop-slices l = record {
  slices : IsTrue (list_all is_slice l.slices);
  most : l.word + room l.slices ≤ l.fixed + room l.initial.slices;
  rest : l.word + bits_of_slices l.fields l.slices ≡ l.fixed + bits_of_slices l.fields l.initial.slices;
}

abbrev pub decreases-loop-slices : goal.decreases-loop-slices
decreases-loop-slices l = length l.slices
