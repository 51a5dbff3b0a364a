use Rattle.std.proofs.Common.{ℕ, List, ◌++◌, ap, ◌∙◌}
use Rattle.std.specs.Str.Lossy.{utf8_lossy}
use Rattle.json.specs.Token.{Token}
use Rattle.rv_text.specs.declared.lexeme.Span.{Span}
use Rattle.rv_list.specs.declared.view.DefinitionPlace.{DefinitionPlace}
use Rattle.rv_report.specs.Lines.{line_of}
use Rattle.rv_report.specs.Messages.{message_of}
use Rattle.rv_diagnostics.specs.Diagnostics.{diagnostic_by_place, diagnostic_of_fault, fault_diagnostic, first_line_of, name_of_fault, place_of_word}
use Rattle.rv_diagnostics.proofs.diagnostics.put_fault.Goals as goal

pub returns : goal.returns
unfolding fault_diagnostic
returns g c =
    let said = ap utf8_lossy (c.as_slice.ensures.value ∙ c.in_ok-said.ensures) in
    let line = line_of c.args.line.now in
    let fault = c.args.fault in
    let given = g.N.Names.environment c.args.names.now c.args.line.now.address in
    let shown = g.T.View.shown c.args.told.now in
    let encoding = c.args.context.now.encoding in
    let uri = c.args.context.now.uri.now in
    let place = c.place_of_fault-place.result in
    let text = c.text_of_place-text.result.now in
    let message = utf8_lossy (message_of given shown line fault ++ first_line_of fault.number place) in
    let put : DefinitionPlace → List ℕ → Span → List ℕ → List Token = λ place text span message. c.args.m.now ++ diagnostic_of_fault encoding uri place text span line fault message in
    let span = c.in_ok-span.ensures ∙ ap (place_of_word text) c.name_of_fault-name.ensures in
    c.in_ok-put_said.ensures
    ∙ ap (put place text c.in_ok-span.span) said
    ∙ ap (λ s. put place text s message) span
    ∙ ap (λ t. put place t (place_of_word t (name_of_fault given line fault.number fault.span)) message) c.text_of_place-text.ensures.value
    ∙ ap (λ p. c.args.m.now ++ diagnostic_by_place encoding uri given shown line fault p) c.place_of_fault-place.ensures
