-- What is left of a side from which an item was taken, if anything is, beside the other side.
use Rattle.std.proofs.Common.{◌≡◌, ℕ, ◌+◌, ◌≤◌, max, List, [], ◌++◌, Option, Some, None, sym, ◌∙◌, arith, append-nil}
use Rattle.std.specs.Prelude.{MatchOption, remove}
use native.Mathlib.Decide.{dec_le}
use Rattle.rv_tree.specs.Shape.{IsBalanced, IsSettled}
use Rattle.rv_tree.proofs.Turns.{settled-swapped}

-- a side of height l became one of height s
shrunk : (old l r s h : ℕ) → max l r + 1 ≡ old → IsBalanced l r → (s ≤ l) × (l ≤ s + 1) → IsSettled s r h → (h ≤ old) × (old ≤ h + 1)
shrunk old l r s h e b c q =
    elim (dec_le r (s + 1)) [
      | yes p ↦ let k : h ≡ max s r + 1 = q.2 (omega arith, p) in (omega arith, omega arith)
      | no n ↦ (omega arith, omega arith)
    ]

module _ {X : Type 0} (height : X → ℕ) where
  -- how high the tree of it and the other side is
  pub height_left : (o : Option X) (old l r t : ℕ) → max l r + 1 ≡ old → IsBalanced l r → 1 ≤ r → MatchOption o (l ≡ 1) (λ x. (height x ≤ l) × (l ≤ height x + 1)) → MatchOption o (t ≡ r) (λ x. IsSettled (height x) r t) → (t ≤ old) × (old ≤ t + 1)
  height_left None old l r t e b p m k = (omega arith, omega arith)
  height_left (Some x) old l r t e b p m k = shrunk old l r (height x) t e b m k

  pub height_right : (o : Option X) (old l r t : ℕ) → max l r + 1 ≡ old → IsBalanced l r → 1 ≤ l → MatchOption o (r ≡ 1) (λ x. (height x ≤ r) × (r ≤ height x + 1)) → MatchOption o (t ≡ l) (λ x. IsSettled l (height x) t) → (t ≤ old) × (old ≤ t + 1)
  height_right None old l r t e b p m k = (omega arith, omega arith)
  height_right (Some x) old l r t e b p m k = shrunk old r l (height x) t (omega arith) (b.1, b.0) m (settled-swapped l (height x) t k)

-- the items of the tree of it and the other side
pub items_left : {X T : Type 0} (items : X → List T) (o : Option X) (l r t : List T) (i : ℕ) → MatchOption o (remove l i ≡ []) (λ x. items x ≡ remove l i) → MatchOption o (t ≡ r) (λ x. t ≡ items x ++ r) → t ≡ remove l i ++ r
items_left items None l r t i m k = rw m k
items_left items (Some x) l r t i m k = rw (← m) k

pub items_right : {X T : Type 0} (items : X → List T) (o : Option X) (l r t : List T) (i : ℕ) → MatchOption o (remove r i ≡ []) (λ x. items x ≡ remove r i) → MatchOption o (t ≡ l) (λ x. t ≡ l ++ items x) → t ≡ l ++ remove r i
items_right items None l r t i m k = rw m (k ∙ sym (append-nil l))
items_right items (Some x) l r t i m k = rw (← m) k
