use Rattle.std.proofs.Common.{◌≡◌, ◌≤◌, ◌-◌, [], get_or, arith, ap, sym, ◌∙◌}
use Rattle.std.proofs.lemmas.List.{get_or-map}
use Rattle.rv_stmt.specs.Statement.{statement_of}
use Rattle.rv_program.specs.Program.{program_of, no_statement, statement_at}
use Rattle.rv_store.proofs.ShownLines.{same_line}
use Rattle.rv_store.proofs.store.shown.StoreLinesLineSource.line.Goals as goal

pub place-requires : goal.place-requires
place-requires c = record {
  first = rw (← c.self.view_is) at c.requires;
  last = rw (← c.self.view_is) at c.last_item-item.ensures.within;
}

pub returns-clause-value : goal.returns-clause-value
returns-clause-value c =
    let store = c.self.inside.store.now in
    let k = c.self.inside.passed in
    let some : 1 ≤ k = rw (← c.self.view_is) at c.requires in
    let item = rw (← c.self.view_is) at c.last_item-item.ensures.item in
    let last = rw (← c.self.view_is) at c.last_item-item.ensures.within in
    let stmt : statement_of (get_or store.lines (k - 1) []) ≡ statement_at (program_of store.lines) k = sym (get_or-map statement_of store.lines (k - 1) [] no_statement (omega (arith, some, last))) in
    rw (← c.self.view_is) (same_line
    (c.text.ensures.text ∙ item.line)
    (c.stmt.ensures ∙ ap statement_of item.line ∙ stmt)
    c.place.ensures
    item.code)
