-- The items of some subtrees.
use Rattle.std.specs.Prelude.{ℕ, suc, ◌+◌, ◌≤◌, List, [], ◌∷◌, ◌++◌, Option, Some, None, map}
use Rattle.rv_tree.specs.declared.limits.TheConstants.{MAX_HEIGHT}
use Rattle.std.specs.Option.{option_map}
use Rattle.std.proofs.Common.{Bor}
use Rattle.rv_tree.specs.Contents.{Contents}

-- some subtrees that are lent
abbrev pub subtrees : {T : Type 0} → List (Option (Bor (Contents T))) → List (Option (Contents T))
subtrees lent = map (option_map (λ t. t.now)) lent

-- the items, those of the last subtree first
abbrev pub items_left : {T : Type 0} → List (Option (Contents T)) → List T
items_left [] = []
items_left (Some c ∷ cs) = items_left cs ++ c.items
items_left (None ∷ cs) = items_left cs

-- each subtree, with those before it, is no higher than a tree may be; `above` stand before the first
abbrev pub AreLow : {T : Type 0} → (above : ℕ) → List (Option (Contents T)) → Type 0
AreLow above [] = Unit {0}
AreLow above (Some c ∷ cs) = (c.height + above ≤ MAX_HEIGHT) × AreLow (suc above) cs
AreLow above (None ∷ cs) = ⊥
