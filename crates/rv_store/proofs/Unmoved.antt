-- An edit that moves no line leaves each where it lies.
use Rattle.std.proofs.Common.{◌≡◌, ℕ, zero, suc, ◌+◌, ◌-◌, ◌<◌, ◌≤◌, ◌==◌, ◌⊎◌, inl, inr, Bool, true, false, List, [], ◌∷◌, length, take, get_or, set, Option, Some, None, if◌then◌else◌, arith, ap, sym, subst, ◌∙◌, refl}
use Rattle.std.specs.Prelude.{insert, remove}
use Rattle.std.proofs.lemmas.List.{ext_get_or, get_or_default}
use Rattle.std.proofs.lemmas.List.Edits.{length-remove, get_or-insert_below, get_or-insert_at, get_or-insert_above}
use Rattle.rv_stmt.specs.declared.section.Sect.{Sect}
use Rattle.rv_stmt.specs.declared.section.Sect.TheVariants.{Text}
use Rattle.rv_layout.specs.declared.measured.Measured.{Measured}
use Rattle.rv_layout.specs.declared.measured.Measured.TheVariants.{Nothing}
use Rattle.rv_layout.specs.Places.{section_after, offset_after, section_through, offset_through, size_at, section_end_of, base_from}
use Rattle.rv_layout.specs.Sections.{section_number}
use Rattle.rv_list.specs.declared.view.LinePlace.{LinePlace}
use Rattle.rv_program.specs.Edits.{line_before_edit, place_of_edit}
use Rattle.rv_program.specs.Program.{for_lines}
use Rattle.rv_program.specs.Text.{Edit, Insert, Delete, Replace}
use Rattle.rv_program.specs.lemmas.EarlierLines.{insert_before, delete_before, replace_before, edited_count, length-edited, edited-within, edited-at}
use Rattle.rv_program.specs.lemmas.NewShapeLaws.{deleted-stood, new-place}
use Rattle.rv_program.specs.lemmas.Programs.{length-for_lines, at-for_lines}
use Rattle.rv_store.specs.internal.Alike.{room_of}
use Rattle.rv_program.specs.internal.EditedRows.{HasPlace, edited_row}
use Rattle.rv_store.specs.internal.Ends.{by_section, ends_of, place_by_shapes}
use Rattle.rv_store.specs.internal.Unmoved.{MovesNone, place_put_in}
use Rattle.rv_store.proofs.Columns.{inserted-removed}
use Rattle.rv_store.proofs.FormerShapes.{former-new}
use Rattle.rv_store.proofs.Rooms.{places-same, ends-same, rooms-set, rooms-insert}

-- Lines behind which others lie alike

record LeadAlike (xs ys : List Measured) : Type 0 where
  section : (s : Sect) → section_through s xs ≡ section_through s ys
  offset : (t : ℕ) (s : Sect) (x : ℕ) → offset_through t s x xs ≡ offset_through t s x ys

the-same : (xs : List Measured) → LeadAlike xs xs
the-same xs = record { section = λ s. refl; offset = λ t s x. refl }

one-more : (m : Measured) (xs ys : List Measured) → LeadAlike xs ys → LeadAlike (m ∷ xs) (m ∷ ys)
one-more m xs ys alike = record {
  section = λ s. alike.section (section_after s m);
  offset = λ t s x. alike.offset t (section_after s m) (if section_number s == t then offset_after x m else x);
}

either : (b : Bool) (x : ℕ) → (if b then x else x) ≡ x
either true x = refl
either false x = refl

one-less : (xs : List Measured) → LeadAlike (Nothing ∷ xs) xs
one-less xs = record {
  section = λ s. refl;
  offset = λ t s x. ap (λ y. offset_through t s y xs) (either (section_number s == t) x);
}

-- one that is put in
with-one : (xs : List Measured) (p : ℕ) → LeadAlike (insert xs p Nothing) xs
with-one xs zero = one-less xs
with-one [] (suc p) = one-less []
with-one (x ∷ xs) (suc p) = one-more x (insert xs p Nothing) xs (with-one xs p)

up-to : (xs : List Measured) (p n : ℕ) → n ≤ p → p ≤ length xs → take n (insert xs p Nothing) ≡ take n xs
up-to xs p zero up within = refl
up-to xs zero (suc n) up within = absurd (omega (arith, up))
up-to [] (suc p) (suc n) up within = absurd (let no : suc p ≤ 0 = within in omega (arith, no))
up-to (x ∷ xs) (suc p) (suc n) up within = ap (λ ys. x ∷ ys) (up-to xs p n (omega (arith, up)) (let w : suc p ≤ suc (length xs) = within in omega (arith, w)))

behind : (xs : List Measured) (p n : ℕ) → p ≤ n → p ≤ length xs → LeadAlike (take (suc n) (insert xs p Nothing)) (take n xs)
behind xs zero n up within = one-less (take n xs)
behind [] (suc p) n up within = absurd (let no : suc p ≤ 0 = within in omega (arith, no))
behind (x ∷ xs) (suc p) zero up within = absurd (omega (arith, up))
behind (x ∷ xs) (suc p) (suc n) up within =
    one-more x (take (suc n) (insert xs p Nothing)) (take n xs) (behind xs p n (omega (arith, up)) (let w : suc p ≤ suc (length xs) = within in omega (arith, w)))

-- one that is taken out, and put back
put-back : (xs : List Measured) (p : ℕ) → p < length xs → insert (remove xs p) p (get_or xs p Nothing) ≡ xs
put-back xs p within = inserted-removed xs p (get_or xs p Nothing) within (get_or_default xs p Nothing (get_or xs p Nothing) within)

-- Where lines lie

-- in this section at this offset
at : (base : ℕ) (ends : ℕ → ℕ) → Sect → (x : ℕ) → Measured → LinePlace
at base ends s x m = record { section = s; address = base_from base ends (section_number s) + x; size = size_at x m }

-- behind these lines
lying : (base : ℕ) (ends : ℕ → ℕ) → (lead : List Measured) → Measured → LinePlace
lying base ends lead m =
    let s = section_through Text lead in
    at base ends s (offset_through (section_number s) Text 0 lead) m

end-alike : (xs ys : List Measured) → LeadAlike xs ys → section_end_of xs ≡ section_end_of ys
end-alike xs ys alike = λ i t. alike.offset t Text 0 i

ends-alike : (xs ys : List Measured) → LeadAlike xs ys → ends_of xs ≡ ends_of ys
ends-alike xs ys alike = λ i. record { section = alike.section Text i; offsets = by_section (end-alike xs ys alike i) }

module _ (base : ℕ) where
  lies : (ms : List Measured) (n : ℕ) → place_by_shapes base ms (suc n) ≡ lying base (section_end_of ms) (take n ms) (get_or ms n Nothing)
  unfolding at lying
  lies ms n =
      let back : suc n - 1 ≡ n = omega arith in
      ap (λ k. lying base (section_end_of ms) (take k ms) (get_or ms k Nothing)) back

  lying-alike : (xs ys first second : List Measured) (m : Measured) → LeadAlike xs ys → LeadAlike first second → lying base (section_end_of xs) first m ≡ lying base (section_end_of ys) second m
  unfolding at lying
  lying-alike xs ys first second m all lead =
      let s = section_through Text first in
      ap (λ ends. lying base ends first m) (end-alike xs ys all)
      ∙ ap (λ x. at base (section_end_of ys) s x m) (lead.offset (section_number s) Text 0)
      ∙ ap (λ r. at base (section_end_of ys) r (offset_through (section_number r) Text 0 second) m) (lead.section Text)

  -- with one more that takes no room
  module _ (ms : List Measured) (p : ℕ) (m : Measured) (none : room_of m ≡ Nothing) (within : p ≤ length ms) where
    abbrev longer : List Measured
    longer = insert ms p Nothing

    as-longer : (i : ℕ) → place_by_shapes base (insert ms p m) i ≡ place_by_shapes base longer i
    as-longer = places-same (insert ms p m) longer (rooms-insert ms p m Nothing none) base

    inserted-ends : ends_of (insert ms p m) ≡ ends_of ms
    inserted-ends = ends-same (insert ms p m) longer (rooms-insert ms p m Nothing none) ∙ ends-alike longer ms (with-one ms p)

    inserted-above : (n : ℕ) → n < p → place_by_shapes base (insert ms p m) (suc n) ≡ place_by_shapes base ms (suc n)
    inserted-above n below =
        as-longer (suc n)
        ∙ lies longer n
        ∙ ap (λ xs. lying base (section_end_of longer) xs (get_or longer n Nothing)) (up-to ms p n (omega (arith, below)) within)
        ∙ ap (lying base (section_end_of longer) (take n ms)) (get_or-insert_below ms p Nothing Nothing n below within)
        ∙ lying-alike longer ms (take n ms) (take n ms) (get_or ms n Nothing) (with-one ms p) (the-same (take n ms))
        ∙ sym (lies ms n)

    inserted-below : (n : ℕ) → p ≤ n → place_by_shapes base (insert ms p m) (suc (suc n)) ≡ place_by_shapes base ms (suc n)
    inserted-below n up =
        let next : suc n ≡ n + 1 = omega arith in
        as-longer (suc (suc n))
        ∙ lies longer (suc n)
        ∙ ap (λ k. lying base (section_end_of longer) (take (suc n) longer) (get_or longer k Nothing)) next
        ∙ ap (lying base (section_end_of longer) (take (suc n) longer)) (get_or-insert_above ms p Nothing Nothing n up within)
        ∙ lying-alike longer ms (take (suc n) longer) (take n ms) (get_or ms n Nothing) (with-one ms p) (behind ms p n up within)
        ∙ sym (lies ms n)

    -- where that lies
    inserted-here : (line : List ℕ) (q : ℕ) → place_by_shapes base (insert ms p m) (suc p) ≡ place_put_in (Insert q line) (place_by_shapes base ms (suc p))
    unfolding at lying
    inserted-here line q =
        as-longer (suc p)
        ∙ lies longer p
        ∙ ap (λ xs. lying base (section_end_of longer) xs (get_or longer p Nothing)) (up-to ms p p (omega arith) within)
        ∙ ap (lying base (section_end_of longer) (take p ms)) (get_or-insert_at ms p Nothing Nothing within)
        ∙ lying-alike longer ms (take p ms) (take p ms) Nothing (with-one ms p) (the-same (take p ms))
        ∙ sym (ap (place_put_in (Insert q line)) (lies ms p))

  -- Edits

  module _ (ms : List Measured) where
    -- a line that stood
    pub place-stood : (edit : Edit) (shape : Measured) (n j : ℕ) → MovesNone ms edit shape → HasPlace ms edit → line_before_edit edit (suc n) ≡ Some j → place_by_shapes base (edited_row ms edit shape) (suc n) ≡ place_by_shapes base ms j
    place-stood (Insert place line) shape n j none has stood = from (insert_before place line (suc n) j stood)
      where
        from : ((suc n < place) × (j ≡ suc n)) ⊎ ((place < suc n) × (j ≡ suc n - 1)) → place_by_shapes base (insert ms (place - 1) shape) (suc n) ≡ place_by_shapes base ms j
        from (inl (less, is)) =
            inserted-above ms (place - 1) shape none.1 (omega (arith, none.0)) n (omega (arith, less))
            ∙ ap (place_by_shapes base ms) (sym is)
        from (inr (more, is)) =
            let next : suc n ≡ suc (suc (n - 1)) = omega (arith, more, has.0) in
            let here : suc (n - 1) ≡ j = omega (arith, more, has.0, is) in
            ap (place_by_shapes base (insert ms (place - 1) shape)) next
            ∙ inserted-below ms (place - 1) shape none.1 (omega (arith, none.0)) (n - 1) (omega (arith, more))
            ∙ ap (place_by_shapes base ms) here
    place-stood (Delete place) shape n j none has stood = from (delete_before place (suc n) j stood)
      where
        there : place - 1 < length ms
        there = omega (arith, has.0, has.1)

        gone : Measured
        gone = get_or ms (place - 1) Nothing

        left : List Measured
        left = remove ms (place - 1)

        room : place - 1 ≤ length left
        room = omega (arith, there, length-remove ms (place - 1) there)

        from : ((suc n < place) × (j ≡ suc n)) ⊎ ((place ≤ suc n) × (j ≡ suc n + 1)) → place_by_shapes base left (suc n) ≡ place_by_shapes base ms j
        from (inl (less, is)) =
            sym (inserted-above left (place - 1) gone none room n (omega (arith, less)))
            ∙ ap (λ xs. place_by_shapes base xs (suc n)) (put-back ms (place - 1) there)
            ∙ ap (place_by_shapes base ms) (sym is)
        from (inr (more, is)) =
            let next : suc (suc n) ≡ j = omega (arith, is) in
            sym (inserted-below left (place - 1) gone none room n (omega (arith, more)))
            ∙ ap (λ xs. place_by_shapes base xs (suc (suc n))) (put-back ms (place - 1) there)
            ∙ ap (place_by_shapes base ms) next
    place-stood (Replace place line) shape n j none has stood =
        places-same (set ms (place - 1) shape) ms (rooms-set ms (place - 1) shape none) base (suc n) ∙ ap (place_by_shapes base ms) (sym (replace_before place line (suc n) j stood).1)

    -- the line that it puts in
    pub place-new : (edit : Edit) (shape : Measured) (n : ℕ) → MovesNone ms edit shape → HasPlace ms edit → suc n ≡ place_of_edit edit → line_before_edit edit (suc n) ≡ None → place_by_shapes base (edited_row ms edit shape) (suc n) ≡ place_put_in edit (place_by_shapes base ms (suc n))
    place-new (Insert place line) shape n none has here new =
        let at : place - 1 ≡ n = omega (arith, here) in
        rw (sym at) (inserted-here ms (place - 1) shape none.1 (omega (arith, none.0)) line place)
    place-new (Delete place) shape n none has here new = absurd (deleted-stood place (ap (line_before_edit (Delete place)) (sym here) ∙ new))
    place-new (Replace place line) shape n none has here new = places-same (set ms (place - 1) shape) ms (rooms-set ms (place - 1) shape none) base (suc n)

    -- the ends of the sections
    pub ends-stay : (edit : Edit) (shape : Measured) → MovesNone ms edit shape → HasPlace ms edit → ends_of ms ≡ ends_of (edited_row ms edit shape)
    ends-stay (Insert place line) shape none has = sym (inserted-ends ms (place - 1) shape none.1 (omega (arith, none.0)))
    ends-stay (Delete place) shape none has =
        let gone = get_or ms (place - 1) Nothing in
        let there : place - 1 < length ms = omega (arith, has.0, has.1) in
        sym (ap ends_of (put-back ms (place - 1) there))
        ∙ inserted-ends (remove ms (place - 1)) (place - 1) gone none (omega (arith, there, length-remove ms (place - 1) there))
    ends-stay (Replace place line) shape none has = sym (ends-same (set ms (place - 1) shape) ms (rooms-set ms (place - 1) shape none))

    pub place-within : (edit : Edit) (shape : Measured) → MovesNone ms edit shape → HasPlace ms edit → (1 ≤ place_of_edit edit) × (place_of_edit edit ≤ length ms)
    place-within (Insert place line) shape none has = (has.0, none.0)
    place-within (Delete place) shape none has = has
    place-within (Replace place line) shape none has = has

    -- The places of all lines

    module _ (edit : Edit) (shape : Measured) (none : MovesNone ms edit shape) (has : HasPlace ms edit) where
      abbrev pub lay : List LinePlace
      lay = for_lines (place_by_shapes base ms) (length ms)

      as_many : length lay ≡ length ms
      as_many = length-for_lines (place_by_shapes base ms) (length ms)

      lay-at : (i : ℕ) (other : LinePlace) → i < length ms → get_or lay i other ≡ place_by_shapes base ms (suc i)
      lay-at i other within = at-for_lines (place_by_shapes base ms) (length ms) i other within

      module _ (new : LinePlace) (is : new ≡ place_put_in edit (get_or lay (place_of_edit edit - 1) new)) where
        place-each : (i : ℕ) → i < edited_count (length ms) edit → get_or (edited_row lay edit new) i new ≡ place_by_shapes base (edited_row ms edit shape) (suc i)
        place-each i below = from (line_before_edit edit (suc i)) refl
          where
            from : (stood : Option ℕ) → line_before_edit edit (suc i) ≡ stood → get_or (edited_row lay edit new) i new ≡ place_by_shapes base (edited_row ms edit shape) (suc i)
            from None e =
                let here : suc i ≡ place_of_edit edit = new-place edit (suc i) e in
                let there : i ≡ place_of_edit edit - 1 = omega (arith, here) in
                let back : suc (place_of_edit edit - 1) ≡ suc i = omega (arith, here) in
                let stands = ap (line_before_edit edit) (sym here) ∙ e in
                ap (λ n. get_or (edited_row lay edit new) n new) there
                ∙ former-new lay ms edit new new as_many has stands
                ∙ is
                ∙ ap (place_put_in edit) (lay-at (place_of_edit edit - 1) new (let within = place-within edit shape none has in omega (arith, within.0, within.1)) ∙ ap (place_by_shapes base ms) back)
                ∙ sym (place-new edit shape i none has here e)
            from (Some j) e =
                let within = edited-within ms edit (suc i) j has (omega arith) (omega (arith, below)) e in
                let there : i ≡ suc i - 1 = omega arith in
                let back : suc (j - 1) ≡ j = omega (arith, within.0) in
                ap (λ n. get_or (edited_row lay edit new) n new) there
                ∙ edited-at lay ms edit new (suc i) j new as_many has (omega arith) e
                ∙ lay-at (j - 1) new (omega (arith, within.0, within.1))
                ∙ ap (place_by_shapes base ms) back
                ∙ sym (place-stood edit shape i j none has e)

        pub places-stay : edited_row lay edit new ≡ for_lines (place_by_shapes base (edited_row ms edit shape)) (length (edited_row ms edit shape))
        places-stay =
            let after = edited_row ms edit shape in
            let count = length-edited lay ms edit new as_many has in
            let total = length-edited ms ms edit shape refl has in
            ext_get_or new (edited_row lay edit new) (for_lines (place_by_shapes base after) (length after))
            (count ∙ sym (length-for_lines (place_by_shapes base after) (length after) ∙ total))
            (λ i below.
            place-each i (subst (λ n. i < n) count below)
            ∙ sym (at-for_lines (place_by_shapes base after) (length after) i new (subst (λ n. i < n) (count ∙ sym total) below)))
