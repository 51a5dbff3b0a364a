-- What a tree is seen as. The limits are the project's own.
use Rattle.std.specs.Prelude.{ℕ, ◌≤◌, List, length}
use Rattle.rv_tree.specs.declared.limits.TheConstants.{MAX_ITEMS, MAX_HEIGHT}

-- the items in order, and how many nodes the longest path has
pub record Contents (T : Type 0) : Type 0 where
  pub items : List T
  pub height : ℕ

-- no more items, and no longer path, than a tree has at most
abbrev pub IsWithinLimits : {T : Type 0} → Contents T → Type 0
IsWithinLimits c = (length c.items ≤ MAX_ITEMS) × (c.height ≤ MAX_HEIGHT)
