use Rattle.std.proofs.Common.{◌++◌, ap, sym, ◌∙◌}
use Rattle.std.proofs.lemmas.List.{append-nil}
use Rattle.rv_list.specs.Shown.{shown_line}
use Rattle.rv_language.specs.LineNames.{names_of}
use Rattle.rv_language.specs.References.{asked_of, line_places}
use Rattle.rv_language.proofs.NamesElsewhere.{no_places}
use Rattle.rv_language.proofs.references.put_line.Goals as goal

pub returns-then-not-may_stand_in : goal.returns-then-not-may_stand_in
unfolding line_places
returns-then-not-may_stand_in g c =
    let none = rw c.text_of-text.ensures.value at c.may_stand_in.ensures c.if-not-may_stand_in.true in
    sym (ap (λ l. c.args.m.now ++ l) (no_places c.args.context.now.encoding c.args.context.now.uri.now (g.V.View.shown c.args.view.now) (asked_of c.args.wanted.now) c.args.number _ (names_of (shown_line c.args.line.now)) none) ∙ append-nil c.args.m.now)
