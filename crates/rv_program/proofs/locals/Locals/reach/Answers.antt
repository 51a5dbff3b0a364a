use Rattle.std.proofs.Common.{◌≡◌, ℕ, ◌||◌, ◌<◌, Bool, true, false, arith, ap, sym, subst, ◌∙◌, refl}
use Rattle.std.specs.Option.{is_some}
use Rattle.std.proofs.lemmas.Bool.{eq-eqb, eqb-true, false≢true, or_left, or_right}
use Rattle.rv_expr.specs.declared.tree.Direction.TheVariants.{Forward}
use Rattle.rv_stmt.specs.LabelNames.{LabelName}
use Rattle.rv_stmt.specs.LabelNames as label
use Rattle.rv_stmt.specs.LentLabels.{name_lent}
use Rattle.rv_program.specs.internal.Locals.{first_above, lines_with, local_line_in}
use Rattle.rv_program.specs.References.{is_local, among_local}
use Rattle.rv_program.proofs.locals.Locals.reach.Goals as goal

number-of : (number : ℕ) (name : LabelName) (local : ℕ) → name ≡ label.Local local → is_local number name ≡ true → local ≡ number
number-of number name local is h = eqb-true local number (ap (is_local number) (sym is) ∙ h)

pub labels-preserved-in-Local : goal.labels-preserved-in-Local
labels-preserved-in-Local c = record {
  found = found;
  within = omega (arith, c.labels.invariant.within, c.min-first.ensures);
  left = λ number some. c.labels.invariant.left number (ap (among_local number) c.in-Some.ensures.some ∙ or_right (is_local number (name_lent c.in-Some.label.name)) (among_local number c.in-Some.rest) some);
  none = λ none. absurd (false≢true (sym (none c.in-Local.number) ∙ here));
}
  where
    found : (number i : ℕ) → among_local number c.in-Some.rest ≡ false → among_local number c.args.labels ≡ true → i < c.min-first.result → is_some (local_line_in c.args.self.now i number Forward) ≡ true
    found number i none all below = at (is_local number (name_lent c.in-Some.label.name)) refl
      where
        at : (b : Bool) → is_local number (name_lent c.in-Some.label.name) ≡ b → is_some (local_line_in c.args.self.now i number Forward) ≡ true
        at true is = subst (λ n. is_some (first_above i (lines_with c.args.self.now n)) ≡ true) (number-of number (name_lent c.in-Some.label.name) c.in-Local.number (ap name_lent c.in-Local.is) is) (c.last.ensures i (omega (arith, below, c.min-first.ensures)))
        at false is =
            c.labels.invariant.found number i (ap (among_local number) c.in-Some.ensures.some ∙ ap (λ b. b || among_local number c.in-Some.rest) is ∙ none) all (omega (arith, below, c.min-first.ensures))

    -- the label is one of all
    here : among_local c.in-Local.number c.args.labels ≡ true
    here =
        let number = c.in-Local.number in
        let is : is_local number (name_lent c.in-Some.label.name) ≡ true = ap (λ n. is_local number (name_lent n)) c.in-Local.is ∙ eq-eqb number number refl in
        c.labels.invariant.left number (ap (among_local number) c.in-Some.ensures.some ∙ or_left (is_local number (name_lent c.in-Some.label.name)) (among_local number c.in-Some.rest) is)

pub returns-clause-found : goal.returns-clause-found
returns-clause-found c number i all below = c.labels.invariant.found number i (ap (among_local number) c.in_default.ensures.none) all below
