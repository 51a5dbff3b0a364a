use Rattle.std.proofs.Common.{◌≡◌, [], ◌∷◌, ◌++◌, None, Err, ap, sym, ◌∙◌}
use Rattle.rv_expr.specs.declared.faults.ValueFault.TheVariants.{LaterEqu}
use Rattle.rv_list.specs.declared.view.DefinitionPlace.TheVariants.{Nowhere}
use Rattle.rv_program.specs.Definitions.{is_defined}
use Rattle.rv_program.specs.internal.Rows.{number_of, in_row}
use Rattle.rv_program.specs.lemmas.NameRows.{row-at}
use Rattle.rv_store.proofs.RememberedNames.{name-new, remembered-passed, remembered-added}
use Rattle.rv_store.proofs.forgetting.Remembered.add.Goals as goal

pub returns-then-not-is_defined : goal.returns-then-not-is_defined
returns-then-not-is_defined c =
    let names = c.args.names.now in
    let survey = c.args.survey.now in
    let place : in_row names survey.definitions.items Nowhere c.name-name.result.now ≡ c.entry_at-place.result =
    row-at names survey.definitions.items Nowhere c.name-name.result.now c.args.number c.name-name.ensures ∙ sym (rw c.deref.ensures.value at c.entry_at-place.ensures) in
    record {
      after = remembered-passed names survey c.args.number c.name-name.result.now c.args.self.now c.name-name.ensures
          (ap is_defined place ∙ sym c.is_defined.ensures ∙ c.if-not-is_defined.true) c.requires.before;
    }

pub returns : goal.returns
returns c =
    let names = c.args.names.now in
    let survey = c.args.survey.now in
    let before = c.args.self.now in
    let name = c.name-name.result.now in
    let place : in_row names survey.definitions.items Nowhere name ≡ c.entry_at-place.result =
    row-at names survey.definitions.items Nowhere name c.args.number c.name-name.ensures ∙ sym (rw c.deref.ensures.value at c.entry_at-place.ensures) in
    let constant : in_row names survey.constants.items None name ≡ c.entry_at.result =
    row-at names survey.constants.items None name c.args.number c.name-name.ensures ∙ sym (rw c.deref-2.ensures.value at c.entry_at.ensures) in
    let value : in_row names survey.equ_values.items (Err LaterEqu) name ≡ c.entry_at-value.result =
    row-at names survey.equ_values.items (Err LaterEqu) name c.args.number c.name-name.ensures ∙ sym (rw c.deref-3.ensures.value at c.entry_at-value.ensures) in
    record {
      after = remembered-added names survey c.args.number name before _ c.name-name.ensures
          (ap is_defined place ∙ sym c.is_defined.ensures ∙ c.if-not-is_defined.false)
          c.requires.before
          (c.in_ok-intern.ensures.last (ap (λ ns. number_of ns name) c.requires.before.names ∙ name-new _ names name c.args.number c.name-name.ensures))
          (c.in_ok-push.ensures.items ∙ ap (λ p. before.definitions.items ++ p ∷ []) (sym place))
          (c.in_ok-push-2.ensures.items ∙ ap (λ p. before.constants.items ++ p ∷ []) (sym constant))
          (c.in_ok-push-3.ensures.items ∙ ap (λ p. before.equ_values.items ++ p ∷ []) (sym value));
    }
