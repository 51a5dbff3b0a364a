use Rattle.std.proofs.Common.{◌≡◌, ◌≤◌, ◌-◌, ℕ, List, length}
use Rattle.std.specs.Prelude.{slice_index, vec_capacity}
use Rattle.rv_layout.specs.Sections.{section_number}
use Rattle.rv_store.specs.internal.Ends.{IsReached, ArePlaced}
use Rattle.rv_store.proofs.places.push_run.Given as goal

abbrev pub invariant-lines : goal.invariant-lines
invariant-lines l = record {
  up : length l.initial.row.items ≤ length l.row.items;
  within : length l.row.items ≤ length l.shapes;
  reached : IsReached l.shapes (length l.row.items) (record { ends = l.reached.ends; base = l.reached.base; offset = l.offset });
  room : length l.shapes ≤ vec_capacity l.row;
  same : vec_capacity l.row ≡ vec_capacity l.initial.row;
  places : (base : ℕ) → (bases : List ℕ) → l.reached.base ≡ slice_index bases (section_number l.reached.ends.section) → ArePlaced base bases l.shapes l.initial.row.items → ArePlaced base bases l.shapes l.row.items;
}

abbrev pub decreases-lines : goal.decreases-lines
decreases-lines l = length l.shapes - length l.row.items
