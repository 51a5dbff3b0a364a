use Rattle.std.proofs.Common.{◌≡◌, ℕ, List, true, length, ◌⊎◌}
use Rattle.std.specs.List.{list_any}
use Rattle.rv_store.specs.internal.Apart.{added_by, HasMaskOf}
use Rattle.rv_program.specs.Definitions.{defines_symbol}
use Rattle.rv_store.proofs.apart.LineBehind.mark_labels.Given as goal

-- the mask has the symbols of the labels that were gone past
abbrev pub invariant-labels : goal.invariant-labels
invariant-labels l = record {
  kept : (name : List ℕ) → HasMaskOf name l.initial.added → HasMaskOf name l.added;
  marked : (name : List ℕ) → list_any (λ m. defines_symbol m.name name) l.initial.labels ≡ true → added_by l.self name ≡ true → (HasMaskOf name l.added) ⊎ (list_any (λ m. defines_symbol m.name name) l.labels ≡ true);
}

abbrev pub decreases-labels : goal.decreases-labels
decreases-labels l = length l.labels
