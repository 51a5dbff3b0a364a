use Rattle.std.proofs.Common.{◌≡◌, ◌≤◌, ◌⊎◌, ℕ, List, true, length}
use Rattle.std.specs.List.{list_any}
use Rattle.rv_program.specs.Definitions.{defines_symbol}
use Rattle.rv_program.specs.internal.FirstUses.{first_use}
use Rattle.rv_program.specs.internal.NameSets.{bucket_of}
use Rattle.rv_store.proofs.waiting.are_unused.Given as goal

-- no line uses one of the labels that were gone past
abbrev pub invariant-labels : goal.invariant-labels
invariant-labels l = record {
  past : (name : List ℕ) → list_any (λ m. defines_symbol m.name name) l.initial.labels ≡ true → (l.count ≤ first_use l.uses (bucket_of name)) ⊎ (list_any (λ m. defines_symbol m.name name) l.labels ≡ true);
}

abbrev pub decreases-labels : goal.decreases-labels
decreases-labels l = length l.labels
