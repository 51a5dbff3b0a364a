use Rattle.std.proofs.Common.{◌≡◌, suc, length, arith, ap, sym, ◌∙◌, refl}
use Rattle.rv_list.specs.declared.view.DefinitionPlace.TheVariants.{Nowhere}
use Rattle.rv_program.specs.Definitions.{is_equ_on}
use Rattle.rv_program.specs.internal.Rows.{in_row}
use Rattle.rv_store.proofs.LastDefinitions.{equ-unwritten, equ-forgotten}
use Rattle.rv_store.proofs.survey.Survey.forget_equ.Goals as goal

pub returns-in_default-clause-symbols : goal.returns-in_default-clause-symbols
returns-in_default-clause-symbols c base lines number earlier are =
    let names = c.args.names.now in
    let here : c.args.number ≡ suc (length lines) = omega (arith, number) in
    equ-unwritten base lines c.args.line.now earlier names c.args.self.now are
    (λ d body.
    ap (λ k. is_equ_on k (in_row names c.args.self.now.definitions.items Nowhere d.symbol)) (sym here)
    ∙ ap (λ row. is_equ_on c.args.number (in_row names row Nowhere d.symbol)) (sym c.deref.ensures.value)
    ∙ c.in_default.ensures.none refl d body)

pub returns-clause-symbols : goal.returns-clause-symbols
returns-clause-symbols c base lines number earlier are =
    let names = c.args.names.now in
    let here : c.args.number ≡ suc (length lines) = omega (arith, number) in
    equ-forgotten base lines c.args.line.now earlier names c.args.self.now are c.in-Some.field-0-0.now c.in-Some.place c.in-Some.ensures.body c.in-Some.ensures.number
    (ap (λ k. is_equ_on k (in_row names c.args.self.now.definitions.items Nowhere c.in-Some.field-0-0.now.symbol)) (sym here)
    ∙ ap (λ row. is_equ_on c.args.number (in_row names row Nowhere c.in-Some.field-0-0.now.symbol)) (sym c.deref.ensures.value)
    ∙ c.in-Some.ensures.defines)
    _ refl c.put_at.ensures c.put_at-2.ensures
