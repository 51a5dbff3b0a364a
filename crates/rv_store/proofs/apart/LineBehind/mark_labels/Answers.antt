use Rattle.std.proofs.Common.{◌≡◌, ℕ, ◌⊎◌, inl, inr, true, ◌∷◌, List, ap, sym, subst, ◌∙◌}
use Rattle.std.specs.List.{list_any}
use Rattle.std.proofs.lemmas.Bool.{or_cases}
use Rattle.std.proofs.lemmas.Slice.Eq.{bytes_eq-Decides}
use Rattle.rv_stmt.specs.LentLabels.{name_lent, label_lent}
use Rattle.rv_stmt.specs.LabelNames.{Label}
use Rattle.rv_program.specs.Definitions.{defines_symbol}
use Rattle.rv_store.specs.internal.Apart.{added_by, HasMaskOf}
use Rattle.rv_store.proofs.apart.LineBehind.mark_labels.Goals as goal

-- one of the labels defines the name
abbrev DefinesOne : (name : List ℕ) → List Label → Type 0
DefinesOne name labels = list_any (λ m. defines_symbol m.name name) labels ≡ true

-- the first label's name is marked, the others are left
first_marked : (c : goal.After-mark) (name : List ℕ) → DefinesOne name (label_lent c.in-Some.label ∷ c.in-Some.rest) → added_by c.args.self.now name ≡ true → HasMaskOf name c.mark.new.added ⊎ DefinesOne name c.in-Some.rest
first_marked c name one passes =
    let symbol = c.in-Symbol.symbol.now in
    let defines = ap (λ n. defines_symbol (name_lent n) name) c.in-Symbol.is in
    elim (or_cases _ _ one) [
      | inl first ↦ inl (c.mark.ensures.marked name (sym ((bytes_eq-Decides symbol name).0 (sym defines ∙ first))) passes)
      | inr later ↦ inr later
    ]

pub labels-preserved-in-Symbol : goal.labels-preserved-in-Symbol
labels-preserved-in-Symbol c = record {
  kept = λ name before. c.mark.ensures.kept name (c.labels.invariant.kept name before);
  marked = λ name one passes.
      elim (c.labels.invariant.marked name one passes) [
        | inl before ↦ inl (c.mark.ensures.kept name before)
        | inr left ↦ first_marked c name (subst (DefinesOne name) c.in-Some.ensures.some left) passes
      ];
}
