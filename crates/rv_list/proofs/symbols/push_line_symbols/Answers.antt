use Rattle.std.proofs.lemmas.List.Folds.{concat-append}
use Rattle.std.proofs.lemmas.Result.{err_from_is_err_and}
use Rattle.std.specs.List.{concat}
use Rattle.rv_text.specs.BlockLaws.{gathers_then, lost_first}
use Rattle.rv_list.specs.Symbols.{labels_symbols, body_symbols, line_symbols}
use Rattle.rv_list.proofs.symbols.push_line_symbols.Goals as goal

pub returns-in_err-push_labels-clause-text : goal.returns-in_err-push_labels-clause-text
unfolding line_symbols
returns-in_err-push_labels-clause-text g c =
    let p = err_from_is_err_and c.from_residual.result c.from_residual.ensures.1 in
    let line = c.args.line.now in
    let shown = g.V.View.shown c.args.view.now in
    let labels = labels_symbols shown c.args.number line.place.address 0 line.stmt.now.labels in
    let body = body_symbols shown c.args.number line.stmt.now.body in
    let text = rw c.as_slice-labels.ensures at c.in_err-push_labels.ensures.text in
    rw (p.1, concat-append labels body) (lost_first _ _ _ _ (concat body) text)

pub returns-clause-text : goal.returns-clause-text
unfolding line_symbols
returns-clause-text g c =
    let line = c.args.line.now in
    let shown = g.V.View.shown c.args.view.now in
    let labels = labels_symbols shown c.args.number line.place.address 0 line.stmt.now.labels in
    let body = body_symbols shown c.args.number line.stmt.now.body in
    let text = rw c.as_slice-labels.ensures at c.in_ok-push_labels.ensures.text in
    rw (concat-append labels body) (gathers_then _ _ _ _ _ _ _ _ _ text c.push_body.ensures.text)
