use Rattle.std.proofs.Common.{map, sym, ◌∙◌}
use Rattle.rv_program.specs.Program.{program_of}
use Rattle.rv_store.proofs.SymbolLaws.{equ-in_row}
use Rattle.rv_store.proofs.store.shown.RefStoreView.value.Goals as goal

pub returns-in-Equ : goal.returns-in-Equ
returns-in-Equ c =
    let base = c.self.inside.now.base in
    let program = program_of (map (λ i. i.line) c.self.inside.now.items.items) in
    let row = rw c.deref.ensures.value at c.entry_of-value.ensures in
    let defined = rw (← c.self.view_is) at (sym c.definition.ensures ∙ c.in-Equ.is) in
    rw (← c.self.view_is, c.ok.ensures.value, row) (equ-in_row base program c.self.inside.now.names c.self.inside.now.survey.equ_values.items c.args.name.now _ c.self.invariant.surveyed.equ_values defined)
