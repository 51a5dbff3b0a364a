-- Sides of a tree that are put together anew.
use Rattle.std.proofs.Common.{◌≡◌, ℕ, ◌+◌, ◌≤◌, ◌<◌, ◌⊎◌, inl, inr, max, List, ◌++◌, ap, sym, arith, ◌∙◌}
use Rattle.std.proofs.lemmas.List.{append_assoc}
use native.Mathlib.Decide.{dec_le}
use Rattle.rv_tree.specs.Shape.{IsBalanced, IsSettled}

-- The items

pub items-before : {A : Type 0} (left inner outer right low all : List A) → inner ++ outer ≡ right → low ≡ left ++ inner → all ≡ low ++ outer → all ≡ left ++ right
items-before left inner outer right low all whole first second = second ∙ ap (λ xs. xs ++ outer) first ∙ append_assoc left inner outer ∙ ap (λ xs. left ++ xs) whole

pub items-behind : {A : Type 0} (left outer inner right low all : List A) → outer ++ inner ≡ left → low ≡ inner ++ right → all ≡ outer ++ low → all ≡ left ++ right
items-behind left outer inner right low all whole first second = second ∙ ap (λ xs. outer ++ xs) first ∙ sym (append_assoc outer inner right) ∙ ap (λ xs. xs ++ right) whole

pub shared-before : {A : Type 0} (left inner outer right all : List A) → inner ++ outer ≡ right → all ≡ left ++ inner ++ outer → all ≡ left ++ right
shared-before left inner outer right all whole is = is ∙ append_assoc left inner outer ∙ ap (λ xs. left ++ xs) whole

pub shared-behind : {A : Type 0} (left outer inner right all : List A) → outer ++ inner ≡ left → all ≡ outer ++ inner ++ right → all ≡ left ++ right
shared-behind left outer inner right all whole is = is ∙ ap (λ xs. xs ++ right) whole

pub items-shared : {A : Type 0} (left first second right middle low_left low_right all : List A) → first ++ second ≡ middle → low_left ≡ left ++ first → low_right ≡ second ++ right → all ≡ low_left ++ low_right → all ≡ left ++ middle ++ right
items-shared left first second right middle low_left low_right all whole l r is =
    is ∙ (λ i. l i ++ r i) ∙ sym (append_assoc (left ++ first) second right)
    ∙ ap (λ xs. xs ++ right) (append_assoc left first second ∙ ap (λ xs. left ++ xs) whole)

-- The heights: of the lower side, the higher one, its inner and its outer side, and what they become

-- the outer side is as high as the inner one, or higher
pub height-turned : (lower higher inner outer low all : ℕ) → max inner outer + 1 ≡ higher → IsBalanced inner outer → higher ≡ lower + 2 → inner ≤ outer → low ≡ max lower inner + 1 → all ≡ max low outer + 1 → (higher ≤ all) × (all ≤ higher + 1)
height-turned lower higher inner outer low all whole near more is first second = (omega arith, omega arith)

-- it is lower, so as high as the lower side, and the inner one is shared out
pub height-shared : (lower higher inner outer all : ℕ) → max inner outer + 1 ≡ higher → IsBalanced inner outer → higher ≡ lower + 2 → outer < inner → (all ≡ lower + 2) ⊎ (all ≡ outer + 2) → (higher ≤ all) × (all ≤ higher + 1)
height-shared lower higher inner outer all whole near more is (inl left) = (omega arith, omega arith)
height-shared lower higher inner outer all whole near more is (inr right) = (omega arith, omega arith)

pub height-out : (left first second right middle low_left low_right all : ℕ) → max first second + 1 ≡ middle → left ≡ right → middle ≡ left + 1 → low_left ≡ max left first + 1 → low_right ≡ max second right + 1 → all ≡ max low_left low_right + 1 → all ≡ left + 2
height-out left first second right middle low_left low_right all whole level higher l r is = omega arith

-- A side that may have become one higher

pub height-grown : (side other tree new all : ℕ) → max side other + 1 ≡ tree → IsBalanced side other → (side ≤ new) × (new ≤ side + 1) → IsSettled new other all → (tree ≤ all) × (all ≤ tree + 1)
height-grown side other tree new all whole near grown settled =
    elim (dec_le new (other + 1)) [
      | yes low ↦ let is : all ≡ max new other + 1 = settled.2 (low, omega arith) in (omega arith, omega arith)
      | no high ↦ (omega arith, omega arith)
    ]

pub settled-swapped : (left right all : ℕ) → IsSettled left right all → IsSettled right left all
settled-swapped left right all settled =
    let is : max left right ≡ max right left = omega arith in
    rw (← is) (settled.0, settled.1, λ near. settled.2 (near.1, near.0))
