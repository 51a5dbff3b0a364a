use Rattle.std.proofs.Common.{◌≡◌, ℕ, ◌<◌, length, slice_index}
use Rattle.rv_layout.specs.Effects.{offset_reached}
use Rattle.rv_layout.specs.Sections.{sections}
use Rattle.rv_layout.proofs.places.ends_of.Given as goal

-- the ends of the sections before
abbrev pub invariant-loop-section : goal.invariant-loop-section
invariant-loop-section l = record {
  count : length l.ends ≡ sections;
  so_far : (k : ℕ) → k < l.section → slice_index l.ends k ≡ offset_reached l.total k;
}
