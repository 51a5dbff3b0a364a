use Rattle.std.proofs.Common.{◌≡◌, ◌≤◌, ◌-◌, ◌==◌, not, is_some, [], length, false, arith, ap, sym, ◌∙◌}
use Rattle.std.proofs.lemmas.Bool.{or_parts}
use Rattle.std.proofs.lemmas.List.{get_or-map}
use Rattle.rv_stmt.specs.Statement.{statement_of}
use Rattle.rv_store.specs.internal.Passed.{is_loud, may_be_misplaced}
use Rattle.rv_program.specs.Program.{no_statement}
use Rattle.rv_store.specs.Shown.{shown_of, shown_line_at}
use Rattle.rv_program.specs.Uses.{is_equ}
use Rattle.rv_store.proofs.QuietLines.{quiet-line}
use Rattle.rv_store.proofs.store.shown.StoreLinesTestedLines.may_have_faults.Goals as goal

pub place-requires : goal.place-requires
place-requires c =
    let some = rw (← c.self.view_is) at c.requires in
    let within = rw (← c.self.view_is) at c.last_item-item.ensures.within in
    record {
      first = omega (arith, some, within);
      last = omega (arith, some, within);
    }

pub returns-else-is_loud : goal.returns-else-is_loud
returns-else-is_loud c = λ well_placed.
    let store = c.self.inside.store.now in
    let k = c.self.inside.passed in
    let some : 1 ≤ k = rw (← c.self.view_is) at c.requires in
    let item = rw (← c.self.view_is) at c.last_item-item.ensures.item in
    let last = rw (← c.self.view_is) at c.last_item-item.ensures.within in
    let stmt = ap statement_of item.line ∙ sym (get_or-map statement_of store.lines (k - 1) [] no_statement (omega (arith, some, last))) in
    let quiet : is_loud c.last_item-item.result.now ≡ false = sym c.is_loud.ensures ∙ c.if-is_loud.false in
    let defined = or_parts _ (is_some c.last_item-item.result.now.code.fault) quiet in
    let none = or_parts _ _ defined.0 in
    rw (← c.self.view_is)
    (quiet-line (shown_of store) k (shown_line_at store k)
    (ap (λ s. not (length s.labels == 0)) (sym stmt) ∙ none.0)
    (ap (λ s. is_equ s.body) (sym stmt) ∙ none.1)
    (ap (λ code. is_some code.fault) (sym item.code) ∙ defined.1)
    (ap may_be_misplaced (sym c.place.ensures) ∙ sym c.may_be_misplaced.ensures ∙ well_placed))
