use Rattle.std.proofs.Common.{◌≡◌, ◌<◌, ◌≤◌, ◌⊎◌, inl, inr, ◌+◌, ℕ, List, length, get_or, set, arith, ap, sym, ◌∙◌, refl, subst}
use Rattle.std.specs.List.Sorted.{IsNonDecreasing}
use Rattle.std.proofs.lemmas.Bool.{cases_lt}
use Rattle.std.proofs.lemmas.List.{get_or_default, get_or-set_same, get_or-set_other, length-set}
use Rattle.rv_program.specs.declared.local_row.LocalRow.{LocalRow}
use Rattle.rv_program.specs.internal.Locals.{IsRowOf, lines_with, lines_below}
use Rattle.rv_program.specs.lemmas.LocalLines.{below-below}
use Rattle.rv_program.proofs.LocalRows.{each-row, lines-at, set-from, set-lines}
use Rattle.rv_program.proofs.locals.Locals.take_out.Goals.{After-index_mut}
use Rattle.rv_program.proofs.locals.Locals.take_out.Goals as goal

within : (c : After-index_mut) → c.loop-place.place < length c.loop-place.self-inside.rows.items
within c = omega (arith, c.loop-place-test.true, c.loop-place.invariant.count, c.len-place-end.ensures, c.self.inside.rows.ok.0, ap length c.self.view_is)

of : (c : After-index_mut) → IsRowOf c.index_mut.result.now.number c.loop-place.self-inside.rows.items c.loop-place.place
of c = record {
  within = within c;
  same = λ other.
      ap (λ r. r.number)
      (get_or_default c.loop-place.self-inside.rows.items c.loop-place.place other c.index_mut.result.now (within c) ∙ sym c.index_mut.ensures.value);
}

-- the lines of its number
stood : (c : After-index_mut) (n : ℕ) → n ≡ c.index_mut.result.now.number → c.index_mut.result.now.lines ≡ lines_with c.loop-place.self-inside.rows.items n
stood c n e =
    ap (λ r. r.lines) c.index_mut.ensures.value
    ∙ sym (lines-at 0 c.loop-place.self-inside.rows.items c.loop-place.place c.index_mut.result.now.number c.index_mut.result.now c.loop-place.invariant.sorted (of c))
    ∙ ap (lines_with c.loop-place.self-inside.rows.items) (sym e)

pub keep_below-requires : goal.keep_below-requires
keep_below-requires c =
    let s = (goal.at.keep_below-requires c).After-index_mut in
    subst IsNonDecreasing (sym (stood s c.index_mut.result.now.number refl)) (c.loop-place.invariant.rising c.index_mut.result.now.number)

pub loop-place-preserved : goal.loop-place-preserved
loop-place-preserved c = record {
  sorted = set-from 0 rows place row (of s) c.loop-place.invariant.sorted;
  rising = λ n. set-lines rows place row (of s) n IsNonDecreasing (λ e. c.keep_below.ensures.rising) (c.loop-place.invariant.rising n);
  count = length-set rows place row ∙ c.loop-place.invariant.count;
  done = λ k other up. done k other up (cases_lt k place);
  below = λ n.
      set-lines rows place row (of s) n (λ ls. lines_below line ls ≡ lines_below line (lines_with c.args.self.now n))
      (λ e. ap (lines_below line) c.keep_below.ensures.lines ∙ below-below line c.index_mut.result.now.lines ∙ ap (lines_below line) (stood s n e) ∙ c.loop-place.invariant.below n)
      (c.loop-place.invariant.below n);
}
  where
    s : After-index_mut
    s = (goal.at.loop-place-preserved c).After-index_mut

    line : ℕ
    line = c.args.line

    rows : List LocalRow
    rows = c.loop-place.self-inside.rows.items

    place : ℕ
    place = c.loop-place.place

    row : LocalRow
    row = record { number = c.index_mut.result.now.number; lines = c.keep_below.new.row }

    done : (k : ℕ) (other : LocalRow) → k < place + 1 → (k < place) ⊎ (place ≤ k) → lines_below line (get_or (set rows place row) k other).lines ≡ (get_or (set rows place row) k other).lines
    done k other up (inl earlier) =
        subst (λ r. lines_below line r.lines ≡ r.lines) (sym (get_or-set_other rows place k row other (λ e. omega (arith, earlier, e)))) (c.loop-place.invariant.done k other earlier)
    done k other up (inr later) =
        let here : k ≡ place = omega (arith, up, later) in
        subst (λ r. lines_below line r.lines ≡ r.lines) (sym (ap (λ m. get_or (set rows place row) m other) here ∙ get_or-set_same rows place row other (within s)))
        (ap (lines_below line) c.keep_below.ensures.lines ∙ below-below line c.index_mut.result.now.lines ∙ sym c.keep_below.ensures.lines)

pub returns : goal.returns
returns c n =
    let rows = c.loop-place.self-inside.rows.items in
    let line = c.args.line in
    sym
    (each-row rows (λ ls. lines_below line ls ≡ ls) refl
    (λ k other up. c.loop-place.invariant.done k other (omega (arith, up, c.loop-place-test.false, c.loop-place.invariant.count, c.len-place-end.ensures, c.self.inside.rows.ok.0, ap length c.self.view_is))) n)
    ∙ c.loop-place.invariant.below n
