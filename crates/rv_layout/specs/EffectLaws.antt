-- Effects joined: unit and associativity.
use Rattle.std.proofs.Common.{◌≡◌, ℕ, zero, suc, ◌≤◌, List, [], ◌∷◌, length, arith, ap, sym, ◌∙◌, refl}
use Rattle.rv_tree.specs.Sums.{JoinLaws}
use Rattle.rv_layout.specs.declared.advance.Advance.{Advance}
use Rattle.rv_layout.specs.declared.effect.Effect.{Effect}
use Rattle.rv_layout.specs.declared.effect.Effect.TheVariants.{Plain, Switched}
use Rattle.rv_layout.specs.Sections.{section_number}
use Rattle.rv_layout.specs.Advances.{then_advance, no_advance, IsAdvance}
use Rattle.rv_layout.specs.Effects.{advance_at, both, join, no_lines, AreAdvances, IsEffect}
use Rattle.rv_layout.specs.AdvanceLaws.{then_advance_assoc, no_advance-then, then-no_advance, then_advance-IsAdvance}

pub below_32 : (s : Advance) → IsAdvance s → s.exponent ≤ 32
below_32 s h = omega (arith, h.small)

advance_at-advance_at : (i : ℕ) (h k : Advance) (xs : List Advance) → IsAdvance h → IsAdvance k → advance_at i k (advance_at i h xs) ≡ advance_at i (then_advance h k) xs
advance_at-advance_at i h k [] g o = refl
advance_at-advance_at zero h k (x ∷ xs) g o = ap (λ y. y ∷ xs) (then_advance_assoc x h k (below_32 h g) (below_32 k o))
advance_at-advance_at (suc i) h k (x ∷ xs) g o = ap (λ ys. x ∷ ys) (advance_at-advance_at i h k xs g o)

advance_at-both : (i : ℕ) (k : Advance) (xs ys : List Advance) → AreAdvances ys → IsAdvance k → advance_at i k (both xs ys) ≡ both xs (advance_at i k ys)
advance_at-both i k [] ys g o = refl
advance_at-both i k (x ∷ xs) [] g o = refl
advance_at-both zero k (x ∷ xs) (y ∷ ys) g o = ap (λ z. z ∷ both xs ys) (then_advance_assoc x y k (below_32 y g.0) (below_32 k o))
advance_at-both (suc i) k (x ∷ xs) (y ∷ ys) g o = ap (λ zs. then_advance x y ∷ zs) (advance_at-both i k xs ys g.1 o)

both_assoc : (xs ys zs : List Advance) → AreAdvances ys → AreAdvances zs → both (both xs ys) zs ≡ both xs (both ys zs)
both_assoc [] ys zs g o = refl
both_assoc (x ∷ xs) [] zs g o = refl
both_assoc (x ∷ xs) (y ∷ ys) [] g o = refl
both_assoc (x ∷ xs) (y ∷ ys) (z ∷ zs) g o =
    ap (λ w. w ∷ both (both xs ys) zs) (then_advance_assoc x y z (below_32 y g.0) (below_32 z o.0))
    ∙ ap (λ ws. then_advance x (then_advance y z) ∷ ws) (both_assoc xs ys zs g.1 o.1)

advance_at-no_advance : (i : ℕ) (xs : List Advance) → AreAdvances xs → advance_at i no_advance xs ≡ xs
advance_at-no_advance i [] o = refl
advance_at-no_advance zero (x ∷ xs) o = ap (λ y. y ∷ xs) (then-no_advance x o.0)
advance_at-no_advance (suc i) (x ∷ xs) o = ap (λ ys. x ∷ ys) (advance_at-no_advance i xs o.1)

pub advance_at-AreAdvances : (i : ℕ) (h : Advance) (xs : List Advance) → IsAdvance h → AreAdvances xs → AreAdvances (advance_at i h xs)
advance_at-AreAdvances i h [] o os = tt
advance_at-AreAdvances zero h (x ∷ xs) o os = (then_advance-IsAdvance x h os.0 o, os.1)
advance_at-AreAdvances (suc i) h (x ∷ xs) o os = (os.0, advance_at-AreAdvances i h xs o os.1)

pub join_assoc : (p q r : Effect) → IsEffect p → IsEffect q → IsEffect r → join (join p q) r ≡ join p (join q r)
join_assoc (Plain h) (Plain k) (Plain l) op oq or = ap Plain (then_advance_assoc h k l (below_32 k oq) (below_32 l or))
join_assoc (Plain h) (Plain k) (Switched l u zs) op oq or =
    ap (λ x. Switched x u zs) (then_advance_assoc h k l (below_32 k oq) (below_32 l or.0))
join_assoc (Plain h) (Switched k t ys) (Plain l) op oq or = refl
join_assoc (Plain h) (Switched k t ys) (Switched l u zs) op oq or = refl
join_assoc (Switched h s xs) (Plain k) (Plain l) op oq or = ap (Switched h s) (advance_at-advance_at (section_number s) k l xs oq or)
join_assoc (Switched h s xs) (Plain k) (Switched l u zs) op oq or =
    ap (λ x. Switched h u (both x zs)) (advance_at-advance_at (section_number s) k l xs oq or.0)
join_assoc (Switched h s xs) (Switched k t ys) (Plain l) op oq or =
    ap (Switched h t) (advance_at-both (section_number t) l (advance_at (section_number s) k xs) ys oq.2 or)
join_assoc (Switched h s xs) (Switched k t ys) (Switched l u zs) op oq or =
    let row = advance_at (section_number s) k xs in
    ap (λ x. Switched h u (both x zs)) (advance_at-both (section_number t) l row ys oq.2 or.0)
    ∙ ap (Switched h u) (both_assoc row (advance_at (section_number t) l ys) zs (advance_at-AreAdvances (section_number t) l ys or.0 oq.2) or.2)

pub no_lines-join : (p : Effect) → IsEffect p → join no_lines p ≡ p
no_lines-join (Plain h) o = ap Plain (no_advance-then h o)
no_lines-join (Switched h s xs) o = ap (λ x. Switched x s xs) (no_advance-then h o.0)

pub join-no_lines : (p : Effect) → IsEffect p → join p no_lines ≡ p
join-no_lines (Plain h) o = ap Plain (then-no_advance h o)
join-no_lines (Switched h s xs) o = ap (Switched h s) (advance_at-no_advance (section_number s) xs o.2)

pub advance_at-length : (i : ℕ) (h : Advance) (xs : List Advance) → length (advance_at i h xs) ≡ length xs
advance_at-length i h [] = refl
advance_at-length zero h (x ∷ xs) = refl
advance_at-length (suc i) h (x ∷ xs) = ap suc (advance_at-length i h xs)

both-length : (xs ys : List Advance) → length xs ≡ length ys → length (both xs ys) ≡ length xs
both-length [] ys e = refl
both-length (x ∷ xs) [] e = sym e
both-length (x ∷ xs) (y ∷ ys) e = ap suc (both-length xs ys (omega (arith, e)))

both-AreAdvances : (xs ys : List Advance) → AreAdvances xs → AreAdvances ys → AreAdvances (both xs ys)
both-AreAdvances [] ys o p = tt
both-AreAdvances (x ∷ xs) [] o p = tt
both-AreAdvances (x ∷ xs) (y ∷ ys) o p = (then_advance-IsAdvance x y o.0 p.0, both-AreAdvances xs ys o.1 p.1)

pub join-IsEffect : (p q : Effect) → IsEffect p → IsEffect q → IsEffect (join p q)
join-IsEffect (Plain h) (Plain k) o p = then_advance-IsAdvance h k o p
join-IsEffect (Plain h) (Switched k t ys) o p = (then_advance-IsAdvance h k o p.0, p.1, p.2)
join-IsEffect (Switched h s xs) (Plain k) o p =
    let i = section_number s in
    (o.0, advance_at-length i k xs ∙ o.1, advance_at-AreAdvances i k xs p o.2)
join-IsEffect (Switched h s xs) (Switched k t ys) o p =
    let i = section_number s in
    let same : length (advance_at i k xs) ≡ length ys = advance_at-length i k xs ∙ o.1 ∙ sym p.1 in (
      o.0,
      both-length (advance_at i k xs) ys same ∙ advance_at-length i k xs ∙ o.1,
      both-AreAdvances (advance_at i k xs) ys (advance_at-AreAdvances i k xs p.0 o.2) p.2,
    )

pub no_lines-IsEffect : IsEffect no_lines
no_lines-IsEffect = record { small = omega arith; before_fits = omega arith; after_fits = omega arith; plain = λ none. refl }

pub effect_laws : JoinLaws IsEffect no_lines join
effect_laws = record {
  empty_is_value = no_lines-IsEffect;
  op_is_value = join-IsEffect;
  left_unit = no_lines-join;
  right_unit = join-no_lines;
  associative = join_assoc;
}
