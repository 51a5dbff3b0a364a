use Rattle.std.proofs.Common.{◌≡◌, ◌⊎◌, inl, inr, ◌==◌, ℕ, List, [], ◌∷◌, ◌++◌, set, ap, sym, subst, ◌∙◌, refl}
use Rattle.std.specs.List.Sorted.{IsNonDecreasing}
use Rattle.std.proofs.lemmas.Bool.{cases_eq, eq-eqb, ne_eqb}
use Rattle.rv_program.specs.declared.local_row.LocalRow.{LocalRow}
use Rattle.rv_program.specs.internal.Locals.{AreLocalRows, IsRowOf, lines_with, lines_below, with_last}
use Rattle.rv_program.specs.lemmas.LocalLines.{below-below, below-pushed, rising-pushed}
use Rattle.rv_program.proofs.LocalRows.{lines-at, set-from, set-here, set-lines}
use Rattle.rv_program.proofs.locals.Locals.put_last.Goals.{After-keep_below}
use Rattle.rv_program.proofs.locals.Locals.put_last.Goals as goal

-- the row as it stood
abbrev old : After-keep_below → LocalRow
old c = c.index_mut.result.now

-- the same with other lines
abbrev with : After-keep_below → List ℕ → LocalRow
with c lines = record { number = c.index_mut.result.now.number; lines = lines }

of : (c : After-keep_below) → IsRowOf c.args.number c.self.inside.rows.items c.in_ok-place.place
of c = subst (λ rs. IsRowOf c.args.number rs c.in_ok-place.place) (sym c.self.view_is) c.in_ok-place.ensures.row

number : (c : After-keep_below) → (old c).number ≡ c.args.number
number c = ap (λ r. r.number) c.index_mut.ensures.value ∙ (of c).same (old c)

of-old : (c : After-keep_below) → IsRowOf (old c).number c.self.inside.rows.items c.in_ok-place.place
of-old c = subst (λ n. IsRowOf n c.self.inside.rows.items c.in_ok-place.place) (sym (number c)) (of c)

-- the lines of its number
stood : (c : After-keep_below) (n : ℕ) → n ≡ (old c).number → (old c).lines ≡ lines_with c.self.inside.rows.items n
stood c n e =
    ap (λ r. r.lines) c.index_mut.ensures.value
    ∙ sym (lines-at 0 c.self.inside.rows.items c.in_ok-place.place (old c).number (old c) c.self.invariant.sorted (of-old c))
    ∙ ap (lines_with c.self.inside.rows.items) (sym e)

are : (c : After-keep_below) (lines : List ℕ) → IsNonDecreasing lines → AreLocalRows (set c.self.inside.rows.items c.in_ok-place.place (with c lines))
are c lines up = record {
  sorted = set-from 0 c.self.inside.rows.items c.in_ok-place.place (with c lines) (of-old c) c.self.invariant.sorted;
  rising = λ n. set-lines c.self.inside.rows.items c.in_ok-place.place (with c lines) (of-old c) n IsNonDecreasing (λ e. up) (c.self.invariant.rising n);
}

-- lines in its place, the same before this one
below : (c : After-keep_below) (lines : List ℕ) → lines_below c.args.line lines ≡ lines_below c.args.line (lines_below c.args.line (old c).lines) → (n : ℕ) → lines_below c.args.line (lines_with (set c.self.inside.rows.items c.in_ok-place.place (with c lines)) n) ≡ lines_below c.args.line (lines_with c.args.self.now n)
below c lines same n =
    let line = c.args.line in
    let rows = c.self.inside.rows.items in
    set-lines rows c.in_ok-place.place (with c lines) (of-old c) n (λ ls. lines_below line ls ≡ lines_below line (lines_with rows n))
    (λ e. same ∙ below-below line (old c).lines ∙ ap (lines_below line) (stood c n e)) refl
    ∙ ap (λ rs. lines_below line (lines_with rs n)) c.self.view_is ∙ ap (lines_below line) (c.in_ok-place.ensures.same n)

pub keep_below-requires : goal.keep_below-requires
keep_below-requires c =
    let rows = c.self.inside.rows.items in
    let of = subst (λ rs. IsRowOf c.args.number rs c.in_ok-place.place) (sym c.self.view_is) c.in_ok-place.ensures.row in
    subst IsNonDecreasing
    (lines-at 0 rows c.in_ok-place.place c.args.number c.index_mut.result.now c.self.invariant.sorted of ∙ ap (λ r. r.lines) (sym c.index_mut.ensures.value))
    (c.self.invariant.rising c.args.number)

pub invariant_of-self : goal.invariant_of-self
invariant_of-self c =
    are (goal.at.invariant_of-self c).After-keep_below c.push.new.self (subst IsNonDecreasing (sym c.in_err-push.ensures.refused) c.keep_below.ensures.rising)

pub returns-in_err-push-clause-below : goal.returns-in_err-push-clause-below
returns-in_err-push-clause-below c n =
    below (goal.at.returns-in_err-push-clause-below c).After-keep_below c.push.new.self (ap (lines_below c.args.line) (c.in_err-push.ensures.refused ∙ c.keep_below.ensures.lines)) n

pub invariant_of-self-2 : goal.invariant_of-self-2
invariant_of-self-2 c =
    let line = c.args.line in
    let pushed = c.in_ok-push.ensures.pushed ∙ ap (λ ls. ls ++ line ∷ []) c.keep_below.ensures.lines in
    are (goal.at.invariant_of-self-2 c).After-keep_below c.push.new.self
    (subst IsNonDecreasing (sym pushed) (rising-pushed line c.index_mut.result.now.lines (subst IsNonDecreasing c.keep_below.ensures.lines c.keep_below.ensures.rising)))

pub returns-clause-ok : goal.returns-clause-ok
returns-clause-ok c n = at (cases_eq n c.args.number)
  where
    s : After-keep_below
    s = (goal.at.returns-clause-ok c).After-keep_below

    line : ℕ
    line = c.args.line

    rows : List LocalRow
    rows = c.self.inside.rows.items

    last : (n : ℕ) → List ℕ
    last n = with_last line (n == c.args.number) (lines_with rows n)

    put : lines_with (set rows c.in_ok-place.place (with s c.push.new.self)) n ≡ last n → lines_with (set rows c.in_ok-place.place (with s c.push.new.self)) n ≡ with_last line (n == c.args.number) (lines_with c.args.self.now n)
    put is =
        is ∙ ap (λ rs. with_last line (n == c.args.number) (lines_with rs n)) c.self.view_is ∙ ap (with_last line (n == c.args.number)) (c.in_ok-place.ensures.same n)

    at : (n ≡ c.args.number) ⊎ (n ≡ c.args.number → ⊥) → lines_with (set rows c.in_ok-place.place (with s c.push.new.self)) n ≡ with_last line (n == c.args.number) (lines_with c.args.self.now n)
    at (inl e) =
        let here : n ≡ (old s).number = e ∙ sym (number s) in
        put
        (ap (lines_with (set rows c.in_ok-place.place (with s c.push.new.self))) here
        ∙ set-here rows c.in_ok-place.place (with s c.push.new.self) (of-old s) c.self.invariant.sorted
        ∙ c.in_ok-push.ensures.pushed ∙ ap (λ ls. ls ++ line ∷ []) (c.keep_below.ensures.lines ∙ ap (lines_below line) (stood s n here))
        ∙ sym (ap (λ b. with_last line b (lines_with rows n)) (eq-eqb n c.args.number e)))
    at (inr apart) =
        put
        (set-lines rows c.in_ok-place.place (with s c.push.new.self) (of-old s) n (λ ls. ls ≡ last n) (λ e. absurd (apart (e ∙ number s)))
        (sym (ap (λ b. with_last line b (lines_with rows n)) (ne_eqb n c.args.number apart))))

pub returns-clause-below : goal.returns-clause-below
returns-clause-below c n =
    let line = c.args.line in
    let pushed = c.in_ok-push.ensures.pushed ∙ ap (λ ls. ls ++ line ∷ []) c.keep_below.ensures.lines in
    below (goal.at.returns-clause-below c).After-keep_below c.push.new.self (ap (lines_below line) pushed ∙ below-pushed line (lines_below line c.index_mut.result.now.lines)) n
