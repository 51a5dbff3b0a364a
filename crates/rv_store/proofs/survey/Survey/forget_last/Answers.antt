use Rattle.std.proofs.Common.{◌≡◌, ◌-◌, suc, [], ◌∷◌, ◌++◌, length, take, true≢false, arith, ap, sym, ◌∙◌, refl}
use Rattle.std.proofs.Math.Seq.{take-append_seam}
use Rattle.rv_list.specs.declared.view.DefinitionPlace.TheVariants.{Nowhere}
use Rattle.rv_program.specs.internal.MovedDefinitions.{kept_after}
use Rattle.rv_program.specs.internal.Rows.{in_row}
use Rattle.rv_program.specs.Text.{Delete}
use Rattle.rv_store.proofs.LastDefinitions.{symbols-forgotten, all-of}
use Rattle.rv_store.proofs.LongerTexts.{count-longer}
use Rattle.rv_store.proofs.survey.Survey.forget_last.Goals as goal

pub returns-then-not-any-clause-symbols : goal.returns-then-not-any-clause-symbols
returns-then-not-any-clause-symbols c any base lines listed earlier are = absurd (true≢false (sym any ∙ c.if-not-any.true))

pub returns-clause-symbols : goal.returns-clause-symbols
returns-clause-symbols c any base lines listed earlier are =
    let names = c.args.names.now in
    let line = c.args.line.now in
    let all = c.args.self.now.lines in
    let forgotten = c.forget_equ.new.self in
    let number : c.len-number.result ≡ suc (length lines) = omega (arith, c.len-number.ensures, ap length listed, count-longer lines line) in
    let left = c.forget_equ.ensures.symbols base lines (omega (arith, number)) earlier (all-of base lines names line all.items c.args.self.now listed are) in
    let same : c.as_slice.result.now ≡ lines ++ line ∷ [] = c.as_slice.ensures ∙ c.forget_equ.ensures.lines.lines ∙ listed in
    let front : c.split_at.result.0.now ≡ lines =
    c.split_at.ensures.front ∙ (λ i. take (let k : c.len-number.result - 1 ≡ length lines = omega (arith, number) in k i) (same i)) ∙ take-append_seam lines (line ∷ []) in
    symbols-forgotten base lines line earlier names forgotten _ left
    (c.keep_places.ensures.row ∙ (λ i. kept_after (Delete (number i)) ((c.one_by_one-searched.ensures ∙ front) i) (in_row names forgotten.definitions.items Nowhere)))
    c.keep_places.ensures.as_many refl refl
