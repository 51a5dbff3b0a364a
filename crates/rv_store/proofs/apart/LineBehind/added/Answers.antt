use Rattle.std.proofs.Common.{◌≡◌, ◌⊎◌, inl, inr, true, not, ap, ◌∙◌}
use Rattle.std.specs.List.{list_any}
use Rattle.std.proofs.lemmas.Bool.{and_parts}
use Rattle.rv_stmt.specs.Statement.{statement_of}
use Rattle.rv_list.specs.declared.view.DefinitionPlace.TheVariants.{Nowhere}
use Rattle.rv_store.specs.internal.Apart.{HasMaskOf}
use Rattle.rv_store.specs.internal.Appended.{is_earlier}
use Rattle.rv_program.specs.Definitions.{defines_symbol, place_in_body, place_in_statement, is_defined}
use Rattle.rv_program.specs.internal.Rows.{in_row}
use Rattle.rv_store.proofs.ApartLines.{statement-defines}
use Rattle.rv_store.proofs.apart.LineBehind.added.Goals as goal

pub returns : goal.returns
returns c name passes =
    let behind = c.args.self.now in
    let s = statement_of behind.line.now in
    let parts = and_parts (not (is_earlier behind.number (in_row behind.names.now behind.definitions.now Nowhere name))) (is_defined (place_in_statement behind.number s name)) passes in
    at (statement-defines behind.number s name parts.1)
  where
    at : (list_any (λ l. defines_symbol l.name name) (statement_of c.args.self.now.line.now).labels ≡ true) ⊎ (is_defined (place_in_body c.args.self.now.number (statement_of c.args.self.now.line.now).body name) ≡ true) → HasMaskOf name c.mark_equ.new.added
    at (inl labels) =
        c.mark_equ.ensures.kept name
        (c.mark_labels.ensures.marked name (ap (list_any (λ l. defines_symbol l.name name)) (c.as_slice.ensures ∙ ap (λ t. t.labels) c.stmt-stmt.ensures) ∙ labels) passes)
    at (inr body) =
        c.mark_equ.ensures.marked name (ap (λ t. is_defined (place_in_body c.args.self.now.number t.body name)) c.stmt-stmt.ensures ∙ body) passes
