use Rattle.std.proofs.Common.{◌≡◌, ℕ, ◌<◌, length, slice_index}
use Rattle.rv_layout.specs.Sections.{sections}
use Rattle.rv_layout.specs.Places.{base_from}
use Rattle.rv_layout.proofs.places.bases_by_ends.Given as goal

-- the bases of the sections before, and that of this one
abbrev pub invariant-loop-section : goal.invariant-loop-section
invariant-loop-section l = record {
  count : length l.bases ≡ sections;
  so_far : (k : ℕ) → k < l.section → slice_index l.bases k ≡ base_from l.base (slice_index l.ends) k;
  next : l.next ≡ base_from l.base (slice_index l.ends) l.section;
}
