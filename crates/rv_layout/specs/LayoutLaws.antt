-- What joined lines do is what going through them gives.
use Rattle.std.proofs.Common.{◌≡◌, ℕ, zero, suc, ◌+◌, ◌^◌, ◌<◌, ◌≤◌, List, [], ◌∷◌, ◌++◌, length, get_or, replicate, if◌then◌else◌, ◌==◌, Bool, true, false, arith, ap, sym, ◌∙◌, refl, ◌⊎◌, inl, inr}
use Rattle.std.proofs.Math.Nat.{mod-mod}
use Rattle.std.proofs.lemmas.Bool.{cases_eq, eq-eqb, ne_eqb}
use Rattle.rv_layout.specs.declared.measured.Measured.{Measured}
use Rattle.rv_layout.specs.declared.measured.Measured.TheVariants.{Bytes, Align, Switch, Nothing, Faulty}
use Rattle.rv_stmt.specs.declared.section.Sect.{Sect}
use Rattle.rv_layout.specs.declared.advance.Advance.{Advance}
use Rattle.rv_layout.specs.declared.effect.Effect.{Effect}
use Rattle.rv_layout.specs.declared.effect.Effect.TheVariants.{Plain, Switched}
use Rattle.rv_layout.specs.Places.{section_after, offset_after, section_through, offset_through, IsLimited, AreLimited}
use Rattle.rv_layout.specs.Sections.{sections, section_number}
use Rattle.rv_layout.specs.AdvanceLaws.{advanced-then, advanced-same, advanced-bytes, advanced-aligned}
use Rattle.rv_layout.specs.Advances.{advance_of, wrap, advanced, no_advance, then_advance, IsAdvance}
use Rattle.rv_layout.specs.EffectLaws.{join_assoc, no_lines-join, join-no_lines, join-IsEffect, no_lines-IsEffect, below_32, advance_at-length, advance_at-AreAdvances}
use Rattle.rv_layout.specs.Effects.{join, advance_at, both, effect_of, layout_of, effect_on_section, effect_on_offset, AreAdvances, IsEffect}

advance_at-here : (i : ℕ) (k d : Advance) (xs : List Advance) → i < length xs → get_or (advance_at i k xs) i d ≡ then_advance (get_or xs i d) k
advance_at-here i k d [] l = absurd (let no : i < 0 = l in omega (arith, no))
advance_at-here zero k d (x ∷ xs) l = refl
advance_at-here (suc i) k d (x ∷ xs) l = advance_at-here i k d xs (omega (arith, l))

advance_at-there : (i t : ℕ) (k d : Advance) (xs : List Advance) → (i ≡ t → ⊥) → get_or (advance_at i k xs) t d ≡ get_or xs t d
advance_at-there i t k d [] e = refl
advance_at-there zero zero k d (x ∷ xs) e = absurd (e refl)
advance_at-there zero (suc t) k d (x ∷ xs) e = refl
advance_at-there (suc i) zero k d (x ∷ xs) e = refl
advance_at-there (suc i) (suc t) k d (x ∷ xs) e = advance_at-there i t k d xs (λ f. e (ap suc f))

both-at : (t : ℕ) (d : Advance) (xs ys : List Advance) → length xs ≡ length ys → t < length xs → get_or (both xs ys) t d ≡ then_advance (get_or xs t d) (get_or ys t d)
both-at t d [] ys e l = absurd (let no : t < 0 = l in omega (arith, no))
both-at t d (x ∷ xs) [] e l = absurd (omega (arith, e))
both-at zero d (x ∷ xs) (y ∷ ys) e l = refl
both-at (suc t) d (x ∷ xs) (y ∷ ys) e l = both-at t d xs ys (omega (arith, e)) (omega (arith, l))

pub join-section : (p q : Effect) (s : Sect) → effect_on_section (join p q) s ≡ effect_on_section q (effect_on_section p s)
join-section (Plain h) (Plain k) s = refl
join-section (Plain h) (Switched k t ys) s = refl
join-section (Switched h u xs) (Plain k) s = refl
join-section (Switched h u xs) (Switched k t ys) s = refl

is_advance_at : (t : ℕ) (d : Advance) (xs : List Advance) → t < length xs → AreAdvances xs → IsAdvance (get_or xs t d)
is_advance_at t d [] l o = absurd (let no : t < 0 = l in omega (arith, no))
is_advance_at zero d (x ∷ xs) l o = o.0
is_advance_at (suc t) d (x ∷ xs) l o = is_advance_at t d xs (omega (arith, l)) o.1

plain_twice : (b : Bool) (h k : Advance) (x : ℕ) → IsAdvance h → IsAdvance k → (if b then advanced (then_advance h k) x else x) ≡ (if b then advanced k (if b then advanced h x else x) else (if b then advanced h x else x))
plain_twice true h k x g o = advanced-then h k x (below_32 h g) (below_32 k o)
plain_twice false h k x g o = refl

at_row : (u t : ℕ) (k : Advance) (xs : List Advance) (z : ℕ) → t < length xs → AreAdvances xs → IsAdvance k → advanced (get_or (advance_at u k xs) t no_advance) z ≡ (if u == t then advanced k (advanced (get_or xs t no_advance) z) else advanced (get_or xs t no_advance) z)
at_row u t k xs z l g o = at (cases_eq u t)
  where
    here : Advance
    here = get_or xs t no_advance

    at : (u ≡ t) ⊎ (u ≡ t → ⊥) → advanced (get_or (advance_at u k xs) t no_advance) z ≡ (if u == t then advanced k (advanced here z) else advanced here z)
    at (inl e) =
        let within : u < length xs = omega (arith, e, l) in
        let there : get_or (advance_at u k xs) t no_advance ≡ then_advance here k =
        ap (λ n. get_or (advance_at u k xs) n no_advance) (sym e)
        ∙ advance_at-here u k no_advance xs within
        ∙ ap (λ n. then_advance (get_or xs n no_advance) k) e in
        rw (eq-eqb u t e)
        (ap (λ s. advanced s z) there ∙ advanced-then here k z (below_32 here (is_advance_at t no_advance xs l g)) (below_32 k o))
    at (inr n) = rw (ne_eqb u t n) (ap (λ s. advanced s z) (advance_at-there u t k no_advance xs n))

pub join-offset : (p q : Effect) (t : ℕ) (s : Sect) (x : ℕ) → t < sections → IsEffect p → IsEffect q → effect_on_offset (join p q) t s x ≡ effect_on_offset q t (effect_on_section p s) (effect_on_offset p t s x)
join-offset (Plain h) (Plain k) t s x l o r = plain_twice (section_number s == t) h k x o r
join-offset (Plain h) (Switched k u ys) t s x l o r =
    ap (advanced (get_or ys t no_advance)) (plain_twice (section_number s == t) h k x o r.0)
join-offset (Switched h u xs) (Plain k) t s x l o r =
    at_row (section_number u) t k xs (if section_number s == t then advanced h x else x) (omega (arith, l, o.1)) o.2 r
join-offset (Switched h u xs) (Switched k v ys) t s x l o r =
    let i = section_number u in
    let z : ℕ = if section_number s == t then advanced h x else x in
    let row = advance_at i k xs in
    let in_xs : t < length xs = omega (arith, l, o.1) in
    let in_ys : t < length ys = omega (arith, l, r.1) in
    let same : length row ≡ length ys = advance_at-length i k xs ∙ o.1 ∙ sym r.1 in
    let in_row : t < length row = omega (arith, l, advance_at-length i k xs, o.1) in
    let advances : AreAdvances row = advance_at-AreAdvances i k xs r.0 o.2 in
    ap (λ w. advanced w z) (both-at t no_advance row ys same in_row)
    ∙ advanced-then (get_or row t no_advance) (get_or ys t no_advance) z (below_32 _ (is_advance_at t no_advance row in_row advances)) (below_32 _ (is_advance_at t no_advance ys in_ys r.2))
    ∙ ap (advanced (get_or ys t no_advance)) (at_row i t k xs z in_xs o.2 r.0)

rows_of_none : (n : ℕ) → AreAdvances (replicate n no_advance)
rows_of_none zero = tt
rows_of_none (suc n) = (no_lines-IsEffect, rows_of_none n)

-- what the code can hold
abbrev pub IsInRange : Measured → Type 0
IsInRange (Bytes n) = n < 2 ^ 32
IsInRange (Align e) = e ≤ 12
IsInRange m = Unit {0}

-- a line whose bytes and alignment are within the ranges of their types
pub effect_of-IsEffect : (m : Measured) → IsInRange m → IsEffect (effect_of m)
effect_of-IsEffect (Bytes n) o = record { small = omega arith; before_fits = omega arith; after_fits = omega (arith, o); plain = λ none. refl }
effect_of-IsEffect (Align e) o = record { small = o; before_fits = omega arith; after_fits = omega arith; plain = λ none. refl }
effect_of-IsEffect (Switch s) o = (no_lines-IsEffect, refl, rows_of_none sections)
effect_of-IsEffect Nothing o = no_lines-IsEffect
effect_of-IsEffect (Faulty fault) o = no_lines-IsEffect

pub IsLimited-IsInRange : (m : Measured) → IsLimited m → IsInRange m
IsLimited-IsInRange (Bytes n) o = omega (arith, o)
IsLimited-IsInRange (Align e) o = o
IsLimited-IsInRange (Switch s) o = tt
IsLimited-IsInRange Nothing o = tt
IsLimited-IsInRange (Faulty fault) o = tt

pub layout_of-IsEffect : (ms : List Measured) → AreLimited ms → IsEffect (layout_of ms)
layout_of-IsEffect [] o = no_lines-IsEffect
layout_of-IsEffect (m ∷ ms) o =
    join-IsEffect _ _ (effect_of-IsEffect m (IsLimited-IsInRange m o.0)) (layout_of-IsEffect ms o.1)

-- one line more after the others
pub layout_of-push : (ms : List Measured) (m : Measured) → AreLimited ms → IsLimited m → layout_of (ms ++ m ∷ []) ≡ join (layout_of ms) (effect_of m)
layout_of-push [] m o h =
    let is = effect_of-IsEffect m (IsLimited-IsInRange m h) in
    join-no_lines (effect_of m) is ∙ sym (no_lines-join (effect_of m) is)
layout_of-push (n ∷ ms) m o h =
    ap (join (effect_of n)) (layout_of-push ms m o.1 h)
    ∙ sym
    (join_assoc (effect_of n) (layout_of ms) (effect_of m)
    (effect_of-IsEffect n (IsLimited-IsInRange n o.0))
    (layout_of-IsEffect ms o.1)
    (effect_of-IsEffect m (IsLimited-IsInRange m h)))

effect_of-section : (m : Measured) (s : Sect) → effect_on_section (effect_of m) s ≡ section_after s m
effect_of-section (Bytes n) s = refl
effect_of-section (Align e) s = refl
effect_of-section (Switch t) s = refl
effect_of-section Nothing s = refl
effect_of-section (Faulty fault) s = refl

pub layout-section : (ms : List Measured) (s : Sect) → effect_on_section (layout_of ms) s ≡ section_through s ms
layout-section [] s = refl
layout-section (m ∷ ms) s =
    join-section (effect_of m) (layout_of ms) s
    ∙ ap (effect_on_section (layout_of ms)) (effect_of-section m s)
    ∙ layout-section ms (section_after s m)

wrap_wrap : (x : ℕ) → wrap (wrap x) ≡ wrap x
wrap_wrap x = mod-mod x (2 ^ 32)

advanced-none : (x : ℕ) → advanced no_advance x ≡ wrap x
advanced-none x = advanced-bytes 0 x ∙ ap wrap (let z : x + 0 ≡ x = omega arith in z)

none_at : (n t : ℕ) → get_or (replicate n no_advance) t no_advance ≡ no_advance
none_at zero t = refl
none_at (suc n) zero = refl
none_at (suc n) (suc t) = none_at n t

-- one line, joined and gone through
one_line : (b : Bool) (h : Advance) (x y z : ℕ) → h.exponent ≤ 32 → wrap x ≡ wrap y → advanced h y ≡ wrap z → wrap (if b then advanced h x else x) ≡ wrap (if b then z else y)
one_line true h x y z o e f = ap wrap (advanced-same h x y o e ∙ f) ∙ wrap_wrap z
one_line false h x y z o e f = e

no_line : (b : Bool) (x y : ℕ) → wrap x ≡ wrap y → wrap (if b then advanced no_advance x else x) ≡ wrap y
no_line true x y e = ap wrap (advanced-none x) ∙ wrap_wrap x ∙ e
no_line false x y e = e

still : (b : Bool) (x y : ℕ) → wrap x ≡ wrap y → wrap (if b then advanced no_advance x else x) ≡ wrap (if b then y else y)
still b x y e = one_line b no_advance x y y (omega arith) e (advanced-none y)

effect_of-offset : (m : Measured) (t : ℕ) (s : Sect) (x y : ℕ) → IsLimited m → wrap x ≡ wrap y → wrap (effect_on_offset (effect_of m) t s x) ≡ wrap (if section_number s == t then offset_after y m else y)
effect_of-offset (Bytes n) t s x y o e =
    one_line (section_number s == t) (advance_of 0 0 n) x y (y + n) (omega arith) e (advanced-bytes n y)
effect_of-offset (Align k) t s x y o e =
    one_line (section_number s == t) (advance_of 0 k 0) x y _ (omega (arith, o)) e (advanced-aligned k y)
effect_of-offset (Switch u) t s x y o e =
    let z : ℕ = if section_number s == t then advanced no_advance x else x in
    ap (λ h. wrap (advanced h z)) (none_at sections t) ∙ ap wrap (advanced-none z) ∙ wrap_wrap z ∙ still (section_number s == t) x y e
effect_of-offset Nothing t s x y o e = still (section_number s == t) x y e
effect_of-offset (Faulty fault) t s x y o e = still (section_number s == t) x y e

-- what the joined lines give is what going through them gives, modulo 2 ^ 32
pub layout-offset : (ms : List Measured) (t : ℕ) (s : Sect) (x y : ℕ) → t < sections → AreLimited ms → wrap x ≡ wrap y → wrap (effect_on_offset (layout_of ms) t s x) ≡ wrap (offset_through t s y ms)
layout-offset [] t s x y l o e = no_line (section_number s == t) x y e
layout-offset (m ∷ ms) t s x y l o e =
    let p : Effect = effect_of m in
    let q : Effect = layout_of ms in
    ap wrap (join-offset p q t s x l (effect_of-IsEffect m (IsLimited-IsInRange m o.0)) (layout_of-IsEffect ms o.1))
    ∙ ap (λ u. wrap (effect_on_offset q t u (effect_on_offset p t s x))) (effect_of-section m s)
    ∙ layout-offset ms t (section_after s m) (effect_on_offset p t s x) (if section_number s == t then offset_after y m else y) l o.1 (effect_of-offset m t s x y o.0 e)
