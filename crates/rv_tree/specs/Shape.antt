-- What a node is seen as, and what holds of each node.
use Rattle.std.specs.Prelude.{◌≡◌, ℕ, zero, suc, ◌+◌, ◌≤◌, max, List, ◌++◌, length}
use Rattle.rv_tree.specs.Contents.{Contents}
use Rattle.rv_tree.specs.Sums.{total, AllSums}
use Rattle.rv_tree.specs.declared.node.Node.{Node}
use Rattle.rv_tree.specs.declared.node.Node.TheVariants.{Leaf, Fork}

-- the items from left to right, and the nodes on the longest path
abbrev pub contents : {T S : Type 0} → Node T S → Contents T
contents (Leaf xs s) = record { items = xs; height = 1 }
contents (Fork l r n h s) = record { items = l.value.items ++ r.value.items; height = max l.value.height r.value.height + 1 }

-- the fewest items of a balanced tree whose longest path has so many nodes
unfoldable pub fewest : ℕ → ℕ
fewest zero = 1
fewest (suc zero) = 1
fewest (suc (suc h)) = fewest (suc h) + fewest h

-- two heights that are at most 1 apart
abbrev pub IsBalanced : ℕ → ℕ → Type 0
IsBalanced l r = (l ≤ r + 1) × (r ≤ l + 1)

-- two heights that are at most 2 apart
abbrev pub IsNear : ℕ → ℕ → Type 0
IsNear l r = (l ≤ r + 2) × (r ≤ l + 2)

-- the height h of the balanced tree that sides of heights l and r give
abbrev pub IsSettled : ℕ → ℕ → ℕ → Type 0
IsSettled l r h = (max l r ≤ h) × (h ≤ max l r + 1) × (IsBalanced l r → h ≡ max l r + 1)

-- A leaf has an item, and keeps the sum of its items.
pub record IsSoundLeaf {T S : Type 0} (is_value : S → Type 0) (empty : S) (op : S → S → S) (sum_of : T → S) (xs : List T) (s : S) : Type 0 where
  pub some : 1 ≤ length xs
  pub sum_is : s ≡ total empty op sum_of xs
  pub sums : AllSums is_value sum_of xs

-- A fork is balanced, and the numbers that it keeps are those of its items.
pub record IsSoundFork {T S : Type 0} (is_value : S → Type 0) (empty : S) (op : S → S → S) (sum_of : T → S) (l r : Contents T) (n h : ℕ) (s : S) : Type 0 where
  pub len_is : n ≡ length l.items + length r.items
  pub height_is : h ≡ max l.height r.height + 1
  pub sum_is : s ≡ total empty op sum_of (l.items ++ r.items)
  pub sums : AllSums is_value sum_of (l.items ++ r.items)
  pub balanced : IsBalanced l.height r.height
  pub full : fewest (max l.height r.height + 1) ≤ length l.items + length r.items
  pub high : (1 ≤ l.height) × (1 ≤ r.height)

abbrev pub IsSound : {T S : Type 0} → (S → Type 0) → S → (S → S → S) → (T → S) → Node T S → Type 0
IsSound is_value empty op sum_of (Leaf xs s) = IsSoundLeaf is_value empty op sum_of xs s
IsSound is_value empty op sum_of (Fork l r n h s) = IsSoundFork is_value empty op sum_of l.value r.value n h s
