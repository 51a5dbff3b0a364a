use Rattle.std.proofs.Common.{◌≡◌, ◌+◌, ◌≤◌, length, IsTrue}
use Rattle.std.specs.List.{list_all}
use Rattle.rv_ops.specs.Room.{is_slice}
use Rattle.rv_ops.specs.declared.layouts.Field.{Field}
use Rattle.rv_code.specs.Decoding.{gathered, number_at, reach}
use Rattle.rv_code.proofs.decoding.gather.Given as goal

abbrev pub invariant-loop-slices : goal.invariant-loop-slices
invariant-loop-slices l = record {
  slices : IsTrue (list_all is_slice l.slices);
  reach : (f : Field) → number_at f l.numbers + reach f l.slices ≤ reach f l.initial.slices;
  value : (f : Field) → number_at f l.numbers + gathered f l.word l.slices ≡ gathered f l.word l.initial.slices;
}

abbrev pub decreases-loop-slices : goal.decreases-loop-slices
decreases-loop-slices l = length l.slices
