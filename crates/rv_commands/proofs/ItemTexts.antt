-- The texts of the items of a list, gathered one after another.
use Rattle.std.proofs.Common.{◌≡◌, ℕ, ◌+◌, ◌<◌, List, [], ◌∷◌, ◌++◌, length, take, drop, get_or, sym, ap, ◌∙◌}
use Rattle.std.proofs.lemmas.Grind.{flat_map-append}
use Rattle.std.proofs.lemmas.List.{take_more, append-nil, take-append-drop}
use Rattle.std.proofs.Math.Seq.{drop-cons}
use Rattle.std.specs.List.{flat_map}
use Rattle.std.specs.Prelude.{Option, suc}
use Rattle.rv_text.specs.Streams.{WritesPrefix}
use Rattle.rv_text.specs.Blocks.{Waits}
use Rattle.rv_text.specs.BlockLaws.{waits_then, waits_lost, lost_first}

module _ {A : Type 0} (f : A → List ℕ) (items : List A) (k : ℕ) (item : A) (within : k < length items) (is : item ≡ get_or items k item) where
  -- one more item
  first_items : flat_map f (take (k + 1) items) ≡ flat_map f (take k items) ++ f item
  first_items =
      ap (flat_map f) (take_more items k item within)
      ∙ flat_map-append f (take k items) (get_or items k item ∷ [])
      ∙ ap (λ l. flat_map f (take k items) ++ l) (append-nil (f (get_or items k item)) ∙ ap f (sym is))

  -- the items are the first ones, this one and those after it
  all_items : flat_map f items ≡ flat_map f (take k items) ++ (f item ++ flat_map f (drop (suc k) items))
  all_items =
      let next : drop k items ≡ item ∷ drop (suc k) items = drop-cons items k item within ∙ ap (λ x. x ∷ drop (suc k) items) (sym is) in
      let whole : items ≡ take k items ++ (item ∷ drop (suc k) items) = sym (take-append-drop k items) ∙ ap (λ l. take k items ++ l) next in
      ap (flat_map f) whole ∙ flat_map-append f (take k items) (item ∷ drop (suc k) items)

  -- the next text is gathered
  pub item_gathered : (t0 t1 t2 : Option (List ℕ)) (p0 p1 p2 : List ℕ) → Waits t0 p0 (flat_map f (take k items)) t1 p1 → Waits t1 p1 (f item) t2 p2 → Waits t0 p0 (flat_map f (take (k + 1) items)) t2 p2
  item_gathered t0 t1 t2 p0 p1 p2 a b = rw first_items (waits_then t0 t1 t2 p0 p1 p2 (flat_map f (take k items)) (f item) a b)

  -- a write fails within the next text
  pub item_lost : (t0 t1 t2 : Option (List ℕ)) (p0 p1 : List ℕ) → Waits t0 p0 (flat_map f (take k items)) t1 p1 → WritesPrefix t1 (p1 ++ f item) t2 → WritesPrefix t0 (p0 ++ flat_map f items) t2
  item_lost t0 t1 t2 p0 p1 a w =
      let more = flat_map f (drop (suc k) items) in
      rw all_items (waits_lost t0 t1 t2 p0 p1 (flat_map f (take k items)) (f item ++ more) a (lost_first t1 t2 p1 (f item) more w))
