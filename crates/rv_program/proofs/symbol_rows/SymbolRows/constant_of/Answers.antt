use Rattle.std.proofs.Common.{length, None, ap, sym, subst, ◌∙◌}
use Rattle.rv_program.specs.internal.Rows.{entry_at, AreConstants}
use Rattle.rv_program.specs.internal.TextRows.{program_in}
use Rattle.rv_program.specs.lemmas.ConstantLaws.{constant-of_other, constant-of_later, constant-of_earlier}
use Rattle.rv_program.specs.lemmas.Programs.{length-program}
use Rattle.rv_program.proofs.symbol_rows.SymbolRows.constant_of.Goals as goal

pub returns-in-Nowhere : goal.returns-in-Nowhere
returns-in-Nowhere c =
    λ name numbered. sym (constant-of_other (program_in c.args.self.now.text) c.args.line name c.definition_of.result (c.definition_of.ensures name numbered) c.in-Nowhere.is)

pub returns-in-Equ : goal.returns-in-Equ
returns-in-Equ c =
    let text = c.args.self.now.text in
    let row = c.args.self.now.constants.now in
    let are : AreConstants (program_in text) (length (program_in text)) text.names.now row =
    subst (λ n. AreConstants (program_in text) n text.names.now row) (sym (length-program text.lines.now)) c.requires.constants in
    λ name numbered.
    c.entry_at.ensures
    ∙ ap (entry_at row None) (sym numbered)
    ∙ constant-of_earlier (program_in text) text.names.now row c.args.line name c.in-Equ.definition are
    (sym (c.definition_of.ensures name numbered) ∙ c.in-Equ.is) c.if-definition-line.true

pub returns-in-Equ-2 : goal.returns-in-Equ-2
returns-in-Equ-2 c =
    λ name numbered.
    sym (constant-of_later (program_in c.args.self.now.text) c.args.line name c.in-Equ.definition
    (sym (c.definition_of.ensures name numbered) ∙ c.in-Equ.is) c.if-definition-line.false)
