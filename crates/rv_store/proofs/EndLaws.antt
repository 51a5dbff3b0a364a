-- Going through the lines one by one gives where they lie.
use Rattle.std.proofs.Common.{◌≡◌, ℕ, zero, suc, ◌+◌, ◌-◌, ◌^◌, ◌<◌, ◌≤◌, ◌==◌, true, List, [], ◌∷◌, ◌++◌, length, take, get_or, set, slice_index, if◌then◌else◌, arith, ap, sym, ◌∙◌, refl, subst, ◌⊎◌, inl, inr}
use Rattle.std.proofs.lemmas.Bool.{cases_eq, eq-eqb, ne_eqb}
use Rattle.std.proofs.lemmas.Grind.{same_number_lists}
use Rattle.std.proofs.lemmas.List.{take_more, get_or_default, get_or-set_same, get_or-set_other, length-append, length-set, set-set}
use Rattle.std.proofs.lemmas.List.FromFn.{length-map-range_with_len}
use Rattle.rv_text.specs.declared.faults.Fault.{Fault}
use Rattle.rv_stmt.specs.declared.section.Sect.{Sect}
use Rattle.rv_stmt.specs.declared.section.Sect.TheVariants.{Text}
use Rattle.rv_layout.specs.declared.measured.Measured.{Measured}
use Rattle.rv_layout.specs.declared.measured.Measured.TheVariants.{Bytes, Align, Switch, Nothing, Faulty}
use Rattle.rv_layout.specs.Advances.{wrap}
use Rattle.rv_layout.specs.Places.{section_after, offset_after, section_through, offset_through, size_at, section_end_of, section_base_of, sum_below, is_base, IsLimited, AreLimited}
use Rattle.rv_layout.specs.Sections.{sections, section_number}
use Rattle.rv_layout.specs.BaseLaws.{base-bound, base_from-fits, sum_below-grows}
use Rattle.rv_layout.specs.PlaceLaws.{part_within, ends_together, number_below}
use Rattle.rv_store.specs.declared.ends.Ends.{Ends}
use Rattle.rv_store.specs.declared.places.Reached.{Reached}
use Rattle.rv_list.specs.declared.view.LinePlace.{LinePlace}
use Rattle.rv_store.specs.internal.Ends.{by_section, ends_of, ends_at, base_by_ends, next_offset, ends_after, next_place, place_by_shapes, AreBases, IsReached, ArePlaced}
use Rattle.rv_program.specs.Program.{for_lines}
use Rattle.rv_store.proofs.EndBases.{at-number, base-ends}

-- Limits

at-IsLimited : (ms : List Measured) (i : ℕ) → AreLimited ms → IsLimited (get_or ms i Nothing)
at-IsLimited [] i h = tt
at-IsLimited (m ∷ ms) zero h = h.0
at-IsLimited (m ∷ ms) (suc i) h = at-IsLimited ms i h.1

next-is : (ms : List Measured) (i : ℕ) (m : Measured) → i < length ms → m ≡ get_or ms i m → m ≡ get_or ms i Nothing
next-is ms i m l is = is ∙ get_or_default ms i m Nothing l

pub next-IsLimited : (ms : List Measured) (i : ℕ) (m : Measured) → AreLimited ms → i < length ms → m ≡ get_or ms i m → IsLimited m
next-IsLimited ms i m h l is = subst IsLimited (sym (next-is ms i m l is)) (at-IsLimited ms i h)

take-next : (ms : List Measured) (i : ℕ) (m : Measured) → i < length ms → m ≡ get_or ms i m → take (i + 1) ms ≡ take i ms ++ m ∷ []
take-next ms i m l is = take_more ms i m l ∙ ap (λ n. take i ms ++ n ∷ []) (sym is)

-- One more line

section_through-push : (s : Sect) (ms : List Measured) (m : Measured) → section_through s (ms ++ m ∷ []) ≡ section_after (section_through s ms) m
section_through-push s [] m = refl
section_through-push s (n ∷ ms) m = section_through-push (section_after s n) ms m

offset_through-push : (t : ℕ) (s : Sect) (x : ℕ) (ms : List Measured) (m : Measured) → offset_through t s x (ms ++ m ∷ []) ≡ (if section_number (section_through s ms) == t then offset_after (offset_through t s x ms) m else offset_through t s x ms)
offset_through-push t s x [] m = refl
offset_through-push t s x (n ∷ ms) m =
    offset_through-push t (section_after s n) (if section_number s == t then offset_after x n else x) ms m

offset_after-size : (x : ℕ) (m : Measured) → offset_after x m ≡ x + size_at x m
offset_after-size x (Bytes n) = refl
offset_after-size x (Align e) = refl
offset_after-size x (Switch s) = omega arith
offset_after-size x Nothing = omega arith
offset_after-size x (Faulty fault) = omega arith

-- The ends of all sections

pub at-section : (f : ℕ → ℕ) (s : Sect) → slice_index (by_section f) (section_number s) ≡ f (section_number s)
at-section f s = at-number f (section_number s) (number_below s)

-- one section grows
grown-at : (f g : ℕ → ℕ) (s t : ℕ) → s < sections → t < sections → (t ≡ s) ⊎ (t ≡ s → ⊥) → (if s == t then g (f t) else f t) ≡ slice_index (set (by_section f) s (g (f s))) t
grown-at f g s t l m (inl same) =
    let within : s < length (by_section f) = rw (length-map-range_with_len f 0 sections) l in
    rw (eq-eqb s t (sym same)) (ap (λ n. g (f n)) same ∙ sym (ap (slice_index (set (by_section f) s (g (f s)))) same ∙ get_or-set_same (by_section f) s (g (f s)) 0 within))
grown-at f g s t l m (inr other) =
    rw (ne_eqb s t (λ e. other (sym e))) (sym (get_or-set_other (by_section f) s t (g (f s)) 0 other ∙ at-number f t m))

one-grows : (f g : ℕ → ℕ) (s : ℕ) → s < sections → by_section (λ t. if s == t then g (f t) else f t) ≡ set (by_section f) s (g (f s))
one-grows f g s l =
    let grown : ℕ → ℕ = λ t. if s == t then g (f t) else f t in
    let count : length (by_section grown) ≡ sections = length-map-range_with_len grown 0 sections in
    let same : length (by_section grown) ≡ length (set (by_section f) s (g (f s))) =
    count ∙ sym (length-set (by_section f) s (g (f s)) ∙ length-map-range_with_len f 0 sections) in
    same_number_lists (by_section grown) (set (by_section f) s (g (f s))) same (λ t m.
    let within : t < sections = omega (arith, m, count) in
    at-number grown t within ∙ grown-at f g s t l within (cases_eq t s))

pub ends_of-push : (ms : List Measured) (m : Measured) → ends_of (ms ++ m ∷ []) ≡ ends_after (ends_of ms) m
ends_of-push ms m =
    let s : Sect = section_through Text ms in
    let here = section_number s in
    let ends : ℕ → ℕ = section_end_of ms in
    (λ j. record { section = section_through-push Text ms m j; offsets = by_section (λ t. offset_through-push t Text 0 ms m j) })
    ∙ ap (λ xs. record { section = section_after s m; offsets = xs }) (one-grows ends (λ x. offset_after x m) here (number_below s))
    ∙ ap (λ x. record { section = section_after s m; offsets = set (by_section ends) here x }) (offset_after-size (ends here) m ∙ ap (λ x. x + size_at x m) (sym (at-section ends s)))

-- Where the end of the next line's section stands apart

module _ (r : Reached) (count : length r.ends.offsets ≡ sections) where
  abbrev here : ℕ
  here = section_number r.ends.section

  pub at-offset : next_offset (ends_at r) ≡ r.offset
  at-offset = get_or-set_same r.ends.offsets here r.offset 0 (omega (arith, number_below r.ends.section, count))

  -- a line of bytes
  pub bytes-on : (size : ℕ) → ends_at (record { ends = r.ends; base = r.base; offset = r.offset + size }) ≡ ends_after (ends_at r) (Bytes size)
  bytes-on size =
      ap (λ xs. record { section = r.ends.section; offsets = xs }) (sym (set-set r.ends.offsets here r.offset (r.offset + size)))
      ∙ ap (λ x. record { section = r.ends.section; offsets = set (set r.ends.offsets here r.offset) here (x + size) }) (sym at-offset)

  -- a line that has no bytes
  nothing-on : ends_at r ≡ ends_after (ends_at r) Nothing
  nothing-on =
      ap (λ x. ends_at (record { ends = r.ends; base = r.base; offset = x })) (let e : r.offset ≡ r.offset + 0 = omega arith in e) ∙ bytes-on 0

  pub no-bytes-on : (m : Measured) → (m ≡ Nothing) ⊎ ((fault : Fault) × (m ≡ Faulty fault)) → ends_at r ≡ ends_after (ends_at r) m
  no-bytes-on m (inl is) = nothing-on ∙ ap (ends_after (ends_at r)) (sym is)
  no-bytes-on m (inr (fault, is)) = nothing-on ∙ ap (ends_after (ends_at r)) (sym is)

  -- the place of the next line, whose address does not wrap
  pub place-apart : (bases : List ℕ) (m : Measured) (size : ℕ) → r.base ≡ slice_index bases here → slice_index bases here + next_offset (ends_at r) < 2 ^ 32 → size ≡ size_at (next_offset (ends_at r)) m → record { section = r.ends.section; address = wrap (r.base + r.offset); size = size } ≡ next_place bases (ends_at r) m
  place-apart bases m size base short is =
      let address : wrap (r.base + r.offset) ≡ slice_index bases here + next_offset (ends_at r) = omega (arith, base, at-offset, short) in
      λ j. record { section = r.ends.section; address = address j; size = is j }

-- The places

pub bases-AreBases : (base : ℕ) (ms : List Measured) (ends : Ends) (bases : List ℕ) → ends ≡ ends_of ms → ((t : ℕ) → t < sections → slice_index bases t ≡ base_by_ends base ends t) → AreBases base ms bases
bases-AreBases base ms ends bases e at t l = at t l ∙ ap (λ o. base_by_ends base o t) e ∙ base-ends base ms t l

-- that of line i + 1
place_after : (base : ℕ) → List Measured → (i : ℕ) → LinePlace
place_after base ms i =
    let s = section_through Text (take i ms) in
    let x = offset_through (section_number s) Text 0 (take i ms) in
    record { section = s; address = section_base_of base ms (section_number s) + x; size = size_at x (get_or ms i Nothing) }

pub next_place-is : (base : ℕ) (ms : List Measured) (i : ℕ) (m : Measured) (bases : List ℕ) → AreBases base ms bases → m ≡ get_or ms i Nothing → next_place bases (ends_of (take i ms)) m ≡ place_by_shapes base ms (suc i)
unfolding place_after
next_place-is base ms i m bases are is =
    let s = section_through Text (take i ms) in
    let back : i ≡ suc i - 1 = omega arith in
    ap (λ x. record { section = s; address = slice_index bases (section_number s) + x; size = size_at x m }) (at-section (section_end_of (take i ms)) s)
    ∙ ap (λ b. record { section = s; address = b + section_end_of (take i ms) (section_number s); size = size_at (section_end_of (take i ms) (section_number s)) m }) (are (section_number s) (number_below s))
    ∙ ap (λ n. record { section = s; address = section_base_of base ms (section_number s) + section_end_of (take i ms) (section_number s); size = size_at (section_end_of (take i ms) (section_number s)) n }) is
    ∙ ap (place_after base ms) back

-- the offset of the next line does not wrap
pub next-short : (ms : List Measured) (i : ℕ) → length ms ≤ 16384 → AreLimited ms → next_offset (ends_of (take i ms)) ≤ 2 ^ 30
next-short ms i few limited =
    let s = section_through Text (take i ms) in
    let t = section_number s in
    let one = sum_below-grows (section_end_of ms) (suc t) sections (number_below s) in
    omega (arith, at-section (section_end_of (take i ms)) s, part_within t Text 0 i ms, one, ends_together ms limited, few)

pub record PlaceFits (bases : List ℕ) (ends : Ends) : Type 0 where
  pub address : slice_index bases (section_number ends.section) + next_offset ends < 2 ^ 32
  pub short : next_offset ends ≤ 2 ^ 30

pub next_place-fits : (base : ℕ) (ms : List Measured) (i : ℕ) (bases : List ℕ) → is_base base ≡ true → length ms ≤ 16384 → AreLimited ms → AreBases base ms bases → PlaceFits bases (ends_of (take i ms))
next_place-fits base ms i bases based few limited are =
    let s = section_through Text (take i ms) in
    let t = section_number s in
    let x = at-section (section_end_of (take i ms)) s in
    let part = part_within t Text 0 i ms in
    let together = ends_together ms limited in
    let enough : sum_below (section_end_of ms) sections ≤ 2 ^ 30 = omega (arith, together, few) in
    let fits = base_from-fits base (section_end_of ms) t sections (number_below s) (omega arith) (base-bound base based) enough in
    let begins = are t (number_below s) in
    record { address = omega (arith, x, part, fits, begins); short = next-short ms i few limited }

-- One line more

module _ (ms : List Measured) (r q : Reached) (i : ℕ) (m : Measured) (row row' : List LinePlace) (size : ℕ) (is : m ≡ get_or ms i m) (within : i < length ms) (few : length ms ≤ 16384) (limited : AreLimited ms) (reached : IsReached ms i r) (count : length row ≡ i) where
  pub reached-next : ends_at q ≡ ends_after (ends_at r) m → IsReached ms (i + 1) q
  reached-next after =
      after ∙ ap (λ e. ends_after e m) reached ∙ sym (ap ends_of (take-next ms i m within is) ∙ ends_of-push (take i ms) m)

  pub placed-next : (base : ℕ) (bases : List ℕ) → r.base ≡ slice_index bases (section_number r.ends.section) → length r.ends.offsets ≡ sections → size ≡ size_at (next_offset (ends_at r)) m → row' ≡ row ++ record { section = r.ends.section; address = wrap (r.base + r.offset); size = size } ∷ [] → ArePlaced base bases ms row → ArePlaced base bases ms row'
  placed-next base bases begins many sized pushed placed = λ based are.
      let next : suc i ≡ i + 1 = omega arith in
      let fits = subst (PlaceFits bases) (sym reached) (next_place-fits base ms i bases based few limited are) in
      let more : length row' ≡ suc i = ap length pushed ∙ length-append row (record { section = r.ends.section; address = wrap (r.base + r.offset); size = size } ∷ []) ∙ omega (arith, count) in
      pushed
      ∙ ap (λ row. row ++ record { section = r.ends.section; address = wrap (r.base + r.offset); size = size } ∷ []) (placed based are ∙ ap (for_lines (place_by_shapes base ms)) count)
      ∙ ap (λ p. for_lines (place_by_shapes base ms) i ++ p ∷ [])
      (place-apart r many bases m size begins fits.address sized
      ∙ ap (λ e. next_place bases e m) reached
      ∙ next_place-is base ms i m bases are (next-is ms i m within is))
      ∙ ap (for_lines (place_by_shapes base ms)) (sym more)

-- A line of so many bytes, or none, that switches no section

abbrev pub IsPlain : (m : Measured) → (size : ℕ) → Type 0
IsPlain m size = (m ≡ Bytes size) ⊎ (((m ≡ Nothing) ⊎ ((fault : Fault) × (m ≡ Faulty fault))) × (size ≡ 0))

no-size : (x : ℕ) (m : Measured) → (m ≡ Nothing) ⊎ ((fault : Fault) × (m ≡ Faulty fault)) → size_at x m ≡ 0
no-size x m (inl is) = ap (size_at x) is
no-size x m (inr (fault, is)) = ap (size_at x) is

pub plain-size : (x : ℕ) (m : Measured) (size : ℕ) → IsPlain m size → size ≡ size_at x m
plain-size x m size (inl is) = sym (ap (size_at x) is)
plain-size x m size (inr (is, none)) = none ∙ sym (no-size x m is)

pub plain-few : (m : Measured) (size : ℕ) → IsPlain m size → IsLimited m → size ≤ 65536
plain-few m size (inl is) limited = subst IsLimited is limited
plain-few m size (inr (is, none)) limited = omega (arith, none)

pub plain-on : (r : Reached) → length r.ends.offsets ≡ sections → (m : Measured) (size : ℕ) → IsPlain m size → ends_at (record { ends = r.ends; base = r.base; offset = r.offset + size }) ≡ ends_after (ends_at r) m
plain-on r count m size (inl is) = bytes-on r count size ∙ ap (ends_after (ends_at r)) (sym is)
plain-on r count m size (inr (is, none)) =
    let same : r.offset + size ≡ r.offset = omega (arith, none) in
    ap (λ x. ends_at (record { ends = r.ends; base = r.base; offset = x })) same ∙ no-bytes-on r count m is
