-- The lines of a text that were passed, one more, and the last of them.
use Rattle.std.proofs.Common.{◌≡◌, ℕ, suc, ◌+◌, ◌-◌, ◌<◌, ◌≤◌, List, ◌∷◌, length, drop, slice_get, get_or, Option, Some, None, Bor, ◌⊎◌, inl, inr, arith, ap, subst, sym, ◌∙◌}
use Rattle.std.specs.Iterator.{YieldsFirstRef}
use Rattle.std.specs.Option.{option_map}
use Rattle.std.proofs.lemmas.List.{drop_more, length-drop, length-map}
use Rattle.std.proofs.lemmas.Option.{slice_get_cases, slice_get-get_or, get_or_from_slice_get, none-some}
use Rattle.rv_program.specs.declared.item.Item.{Item}
use Rattle.rv_program.specs.internal.Items.{IsItem}
use Rattle.rv_store.specs.internal.Passed.{ArePassed}
use Rattle.rv_program.specs.lemmas.ItemLaws.{item_of_line}

module _ (base : ℕ) (lines : List (List ℕ)) (count : ℕ) (last : Option Item) (left : List Item) (are : ArePassed base lines count last left) where
  as_many : length are.items ≡ length lines
  as_many = sym (length-map are.items (λ i. i.line)) ∙ ap length are.of_text.lines

  pub passed_within : count ≤ length lines
  passed_within = omega (arith, are.within, as_many)

  -- one more
  pub one_passed : count < length lines → (next : Option (Bor Item)) (left' : List Item) → YieldsFirstRef (λ s. s) left next left' → ArePassed base lines (count + 1) (option_map (λ i. i.now) next) left'
  one_passed more None left' yields =
      absurd (let none = ap length (sym are.rest ∙ yields.0) in omega (arith, none, length-drop count are.items, as_many, more))
  one_passed more (Some item) left' yields =
      let first = drop_more are.items count item.now (omega (arith, more, as_many)) in
      let same : item.now ∷ left' ≡ get_or are.items count item.now ∷ drop (count + 1) are.items = sym yields ∙ are.rest ∙ first in
      let here : item.now ≡ get_or are.items count item.now = cc in
      let rest : left' ≡ drop (count + 1) are.items = cc in
      record {
        items = are.items;
        of_text = are.of_text;
        few = are.few;
        within = omega (arith, more, as_many);
        rest = rest;
        found = λ k is.
            ap Some here ∙ sym (slice_get-get_or are.items count item.now (omega (arith, more, as_many)))
            ∙ ap (slice_get are.items) (let e : count ≡ k = omega (arith, is) in e);
      }

  -- where some were passed there is a last one
  pub none_passed : 1 ≤ count → last ≡ None → ⊥
  none_passed some none = at (slice_get_cases are.items (count - 1)).1
    where
      missing : slice_get are.items (count - 1) ≡ None
      missing = sym (are.found (count - 1) (omega (arith, some))) ∙ none

      at : ((x : Item) × (count - 1 < length are.items) × (slice_get are.items (count - 1) ≡ Some x) × (get_or are.items (count - 1) x ≡ x)) ⊎ ((length are.items ≤ count - 1) × (slice_get are.items (count - 1) ≡ None)) → ⊥
      at (inl (x, within, there, same)) = none-some x (sym missing ∙ there)
      at (inr (past, none)) = omega (arith, past, some, are.within)

  -- which is that of its line
  pub last_item : (item : Item) → 1 ≤ count → last ≡ Some item → IsItem base lines count item
  last_item item some is =
      let k : count ≡ suc (count - 1) = omega (arith, some) in
      let there = sym (are.found (count - 1) k) ∙ is in
      let found = get_or_from_slice_get are.items (count - 1) item item there in
      subst (IsItem base lines count) found (item_of_line base lines are.items count item are.of_text some (omega (arith, are.within, as_many)))
