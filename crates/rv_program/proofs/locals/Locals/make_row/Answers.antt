use Rattle.std.proofs.Common.{◌≡◌, ◌≤◌, false, length, slice_get, arith, ap, sym, ◌∙◌, refl, subst}
use Rattle.std.specs.List.Sorted.{IsNonDecreasing}
use Rattle.rv_program.specs.declared.local_row.LocalRow.{LocalRow}
use Rattle.rv_program.specs.internal.Locals.{AreFrom, ArePartedBefore, is_row_of, lines_with}
use Rattle.rv_program.proofs.LocalRows.{insert-from, insert-lines, row-of}
use Rattle.rv_program.proofs.locals.Locals.make_row.Goals as goal

pub invariant_of-self : goal.invariant_of-self
invariant_of-self c =
    let rows = c.self.inside.rows.items in
    let number = c.args.number in
    let place = c.rows_below-place.result in
    let row : LocalRow = record { number = number; lines = c.new-lines.result } in
    let within = subst (λ rs. place ≤ length rs) c.as_slice.ensures.value c.rows_below-place.ensures.bound in
    let parted = subst (λ rs. ArePartedBefore number rs place) c.as_slice.ensures.value c.rows_below-place.ensures.parted in
    let none : is_row_of number (slice_get rows place) ≡ false =
    ap (λ rs. is_row_of number (slice_get rs place)) (sym c.as_slice-2.ensures.value) ∙ sym c.is_row_of.ensures ∙ c.if-not-is_row_of.true in
    record {
      sorted = subst (AreFrom 0) (sym c.in_ok-insert.ensures.items) (insert-from 0 number rows place row refl (omega arith) within c.self.invariant.sorted parted none);
      rising = λ n.
          subst IsNonDecreasing (sym (ap (λ rs. lines_with rs n) c.in_ok-insert.ensures.items ∙ insert-lines 0 number rows place row refl c.new-lines.ensures within c.self.invariant.sorted parted none n))
          (c.self.invariant.rising n);
    }

pub returns-in_ok-insert-clause-same : goal.returns-in_ok-insert-clause-same
returns-in_ok-insert-clause-same c n =
    let rows = c.self.inside.rows.items in
    let number = c.args.number in
    let place = c.rows_below-place.result in
    let row : LocalRow = record { number = number; lines = c.new-lines.result } in
    let within = subst (λ rs. place ≤ length rs) c.as_slice.ensures.value c.rows_below-place.ensures.bound in
    let parted = subst (λ rs. ArePartedBefore number rs place) c.as_slice.ensures.value c.rows_below-place.ensures.parted in
    let none : is_row_of number (slice_get rows place) ≡ false =
    ap (λ rs. is_row_of number (slice_get rs place)) (sym c.as_slice-2.ensures.value) ∙ sym c.is_row_of.ensures ∙ c.if-not-is_row_of.true in
    ap (λ rs. lines_with rs n) c.in_ok-insert.ensures.items
    ∙ insert-lines 0 number rows place row refl c.new-lines.ensures within c.self.invariant.sorted parted none n
    ∙ ap (λ rs. lines_with rs n) c.self.view_is

pub returns-else-not-is_row_of-clause-row : goal.returns-else-not-is_row_of-clause-row
returns-else-not-is_row_of-clause-row c =
    row-of c.args.self.now c.rows_below-place.result c.args.number
    (ap (λ rs. is_row_of c.args.number (slice_get rs c.rows_below-place.result)) (sym (c.as_slice-2.ensures.value ∙ c.self.view_is)) ∙ sym c.is_row_of.ensures ∙ c.if-not-is_row_of.false)
