-- A whole run, and a run that stops, of a pass that counts.
use Rattle.std.proofs.Common.{◌≡◌, ℕ, ◌+◌, ◌≤◌, List, ◌∷◌, length, map, refl, ap, ◌∙◌, arith}
use Rattle.rv_tree.specs.Passes.{Runs, Stops, none, one_more, here, refused, later}

module _ {P S T N : Type 0} (gives : P → S → T → T → P → Type 0) (refuses : P → S → T → P → Type 0) (op : S → S → S) (sum_of : T → S) (made : ℕ → T → T) (count limit : P → ℕ) (name : P → N)
    (step : (p q : P) (b : S) (x y : T) → gives p b x y q → (y ≡ made (limit p) x) × (count q ≡ count p + 1) × (limit q ≡ limit p) × (name q ≡ name p))
    (no_refusal : (p q : P) (b : S) (x : T) → refuses p b x q → ⊥) where
  pub counted_run : {p q : P} {b : S} {xs ys : List T} → Runs gives op sum_of p b xs ys q → (ys ≡ map (made (limit p)) xs) × (count q ≡ count p + length xs) × (name q ≡ name p)
  counted_run none = (refl, omega arith, refl)
  counted_run {p} {q} {b} (one_more {m = m} {x = x} {y = y} {xs = xs} {ys = ys} g r) =
      let s = step p m b x y g in
      let t = counted_run r in
      (ap (λ z. z ∷ ys) s.0 ∙ ap (λ zs. made (limit p) x ∷ zs) (t.0 ∙ ap (λ l. map (made l) xs) s.2), omega (arith, s.1, t.1), t.2 ∙ s.3)

  pub counted_stop : {p q : P} {b : S} {xs : List T} → Stops gives refuses op sum_of p b xs q → (count q ≤ count p + length xs) × (name q ≡ name p)
  counted_stop here = (omega arith, refl)
  counted_stop {p} {q} {b} (refused {x = x} r) = absurd (no_refusal p q b x r)
  counted_stop {p} {q} {b} (later {m = m} {x = x} {y = y} g r) =
      let s = step p m b x y g in
      let t = counted_stop r in
      (omega (arith, s.1, t.0), t.1 ∙ s.3)
