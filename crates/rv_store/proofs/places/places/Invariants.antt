use Rattle.std.proofs.Common.{◌≡◌, ◌≤◌, ◌-◌, ℕ, length}
use Rattle.std.specs.Prelude.{slice_index, vec_capacity}
use Rattle.rv_layout.specs.Sections.{section_number}
use Rattle.rv_store.specs.internal.Ends.{IsReached, ArePlaced}
use Rattle.rv_store.proofs.places.places.Given as goal

abbrev pub invariant-lines : goal.invariant-lines
invariant-lines l = record {
  within : length l.row.items ≤ length l.shapes;
  reached : IsReached l.shapes (length l.row.items) l.reached;
  base : l.reached.base ≡ slice_index l.bases (section_number l.reached.ends.section);
  room : length l.shapes ≤ vec_capacity l.row;
  places : (base : ℕ) → ArePlaced base l.bases l.shapes l.row.items;
}

abbrev pub decreases-lines : goal.decreases-lines
decreases-lines l = length l.shapes - length l.row.items
