use Rattle.std.proofs.Common.{sym, ◌∙◌}
use Rattle.rv_program.specs.Program.{program_of}
use Rattle.rv_program.specs.internal.Rows.{ArePlaces}
use Rattle.rv_store.proofs.SymbolLaws.{symbol-nowhere, symbol-label, symbol-equ}
use Rattle.rv_store.proofs.store.Store.symbol.Goals as goal

pub returns-in-Nowhere : goal.returns-in-Nowhere
returns-in-Nowhere c = symbol-nowhere c.args.self.now.base (program_of c.args.self.now.lines) c.args.name.now (sym c.definition.ensures ∙ c.in-Nowhere.is)

pub returns-in-Label : goal.returns-in-Label
returns-in-Label c =
    let program = program_of c.args.self.now.lines in
    let placed : ArePlaces c.args.self.now.base program c.self.inside.survey.places.items = rw (← c.self.view_is) c.self.invariant.surveyed.places in
    let address = rw c.deref.ensures.value at c.address_in.ensures in
    rw address (symbol-label c.args.self.now.base program c.self.inside.survey.places.items c.args.name.now c.in-Label.line _ placed (sym c.definition.ensures ∙ c.in-Label.is))

pub returns-in-Equ : goal.returns-in-Equ
returns-in-Equ c =
    rw c.value.ensures (symbol-equ c.args.self.now.base (program_of c.args.self.now.lines) c.args.name.now _ (sym c.definition.ensures ∙ c.in-Equ.is))
