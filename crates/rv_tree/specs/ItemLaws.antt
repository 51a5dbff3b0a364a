-- The items of some subtrees, one more and one less.
use Rattle.std.proofs.Common.{◌≡◌, ℕ, suc, ◌+◌, ◌≤◌, List, [], ◌∷◌, ◌++◌, length, Option, Some, None, Bor, arith, ap, sym, ◌∙◌}
use Rattle.std.proofs.lemmas.List.{append_assoc, append-nil, length-map, map-append}
use Rattle.rv_tree.specs.declared.limits.TheConstants.{MAX_HEIGHT}
use Rattle.rv_tree.specs.Contents.{Contents}
use Rattle.std.specs.Option.{option_map}
use Rattle.rv_tree.specs.Items.{subtrees, items_left, AreLow}

pub left_pushed : {T : Type 0} (cs : List (Option (Contents T))) (c : Contents T) → items_left (cs ++ Some c ∷ []) ≡ c.items ++ items_left cs
left_pushed [] c = sym (append-nil c.items)
left_pushed (Some d ∷ cs) c = ap (λ xs. xs ++ d.items) (left_pushed cs c) ∙ append_assoc c.items (items_left cs) d.items
left_pushed (None ∷ cs) c = left_pushed cs c

pub low_pushed : {T : Type 0} (above : ℕ) (cs : List (Option (Contents T))) (c : Contents T) → AreLow above cs → c.height + (above + length cs) ≤ MAX_HEIGHT → AreLow above (cs ++ Some c ∷ [])
low_pushed above [] c low fits = (omega (arith, fits), tt)
low_pushed above (Some d ∷ cs) c low fits = (low.0, low_pushed (suc above) cs c low.1 (omega (arith, fits)))
low_pushed above (None ∷ cs) c low fits = absurd low

pub low_popped : {T : Type 0} (above : ℕ) (cs : List (Option (Contents T))) (c : Contents T) → AreLow above (cs ++ Some c ∷ []) → AreLow above cs × (c.height + (above + length cs) ≤ MAX_HEIGHT)
low_popped above [] c low = (tt, omega (arith, low.0))
low_popped above (Some d ∷ cs) c low =
    let rest = low_popped (suc above) cs c low.1 in
    ((low.0, rest.0), omega (arith, rest.1))
low_popped above (None ∷ cs) c low = absurd low

pub none_popped : {T : Type 0} (above : ℕ) (cs : List (Option (Contents T))) → AreLow above (cs ++ None ∷ []) → ⊥
none_popped above [] low = low
none_popped above (Some d ∷ cs) low = none_popped (suc above) cs low.1
none_popped above (None ∷ cs) low = low

-- one more that is lent
pub subtrees_pushed : {T : Type 0} (lent : List (Option (Bor (Contents T)))) (t : Bor (Contents T)) → subtrees (lent ++ Some t ∷ []) ≡ subtrees lent ++ Some t.now ∷ []
subtrees_pushed lent t = map-append (option_map (λ b. b.now)) lent (Some t ∷ [])

pub subtrees_count : {T : Type 0} (lent : List (Option (Bor (Contents T)))) → length (subtrees lent) ≡ length lent
subtrees_count lent = length-map lent (option_map (λ b. b.now))

-- the last one that is lent goes
module _ {T : Type 0} (lent all : List (Option (Bor (Contents T)))) (low : AreLow 0 (subtrees all)) where
  pub popped_low : (t : Bor (Contents T)) → all ≡ lent ++ Some t ∷ [] → AreLow 0 (subtrees lent) × (t.now.height + length lent ≤ MAX_HEIGHT)
  popped_low t is =
      let parts = low_popped 0 (subtrees lent) t.now (rw (sym (ap subtrees is ∙ subtrees_pushed lent t)) low) in
      (parts.0, omega (arith, parts.1, subtrees_count lent))

  pub popped_items : (t : Bor (Contents T)) → all ≡ lent ++ Some t ∷ [] → items_left (subtrees all) ≡ t.now.items ++ items_left (subtrees lent)
  popped_items t is = ap items_left (ap subtrees is ∙ subtrees_pushed lent t) ∙ left_pushed (subtrees lent) t.now

  pub popped_none : all ≡ lent ++ None ∷ [] → ⊥
  popped_none is = none_popped 0 (subtrees lent) (rw (sym (ap subtrees is ∙ map-append (option_map (λ b. b.now)) lent (None ∷ []))) low)
