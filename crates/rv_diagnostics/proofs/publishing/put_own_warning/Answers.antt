use Rattle.std.proofs.Common.{◌++◌, ap, sym, ◌∙◌}
use Rattle.rv_list.specs.Shown.{ShownLine}
use Rattle.rv_report.specs.Warnings.{warning_of, warning_seen}
use Rattle.rv_diagnostics.specs.Diagnostics.{warning_diagnostic}
use Rattle.rv_diagnostics.proofs.ShownRows.{no_warning_here, none_passed, none_shown, one_passed, one_shown, one_skipped, warning_here}
use Rattle.rv_diagnostics.proofs.publishing.put_own_warning.Goals as goal

pub returns-in_default-clause-said : goal.returns-in_default-clause-said
returns-in_default-clause-said g c =
    let shown = g.T.View.shown c.args.told.now in
    let none = c.in_default.ensures ∙ ap (λ (s : ShownLine). warning_of shown s.stmt.body) c.requires.line in
    none_shown c.args.window.now c.args.m.now _ (no_warning_here c.args.context.now.encoding shown c.args.number (shown.line c.args.number) none)

pub returns-in_default-clause-passed : goal.returns-in_default-clause-passed
returns-in_default-clause-passed g c =
    let shown = g.T.View.shown c.args.told.now in
    let none = c.in_default.ensures ∙ ap (λ (s : ShownLine). warning_of shown s.stmt.body) c.requires.line in
    none_passed c.args.window.now _ (no_warning_here c.args.context.now.encoding shown c.args.number (shown.line c.args.number) none)

pub returns-else-shows_next-clause-said : goal.returns-else-shows_next-clause-said
returns-else-shows_next-clause-said g c =
    let shown = g.T.View.shown c.args.told.now in
    let some = c.in-Some.ensures ∙ ap (λ (s : ShownLine). warning_of shown s.stmt.body) c.requires.line in
    let here = warning_here c.args.context.now.encoding shown c.args.number (shown.line c.args.number) (warning_seen c.in-Some.warning) some in
    one_skipped c.args.window.now _ c.args.m.now _ here (sym c.if-shows_next.false ∙ c.shows_next.ensures.shown)

pub returns-else-shows_next-clause-passed : goal.returns-else-shows_next-clause-passed
returns-else-shows_next-clause-passed g c =
    let shown = g.T.View.shown c.args.told.now in
    let some = c.in-Some.ensures ∙ ap (λ (s : ShownLine). warning_of shown s.stmt.body) c.requires.line in
    let here = warning_here c.args.context.now.encoding shown c.args.number (shown.line c.args.number) (warning_seen c.in-Some.warning) some in
    one_passed c.args.window.now _ _ _ here c.shows_next.ensures.passed

pub returns-in_ok-put_warning-clause-said : goal.returns-in_ok-put_warning-clause-said
returns-in_ok-put_warning-clause-said g c =
    let shown = g.T.View.shown c.args.told.now in
    let encoding = c.args.context.now.encoding in
    let warning = warning_seen c.in-Some.warning in
    let some = c.in-Some.ensures ∙ ap (λ (s : ShownLine). warning_of shown s.stmt.body) c.requires.line in
    let here = warning_here encoding shown c.args.number (shown.line c.args.number) warning some in
    one_shown c.args.window.now _ c.args.m.now _ _ here (sym c.if-shows_next.true ∙ c.shows_next.ensures.shown)
    (c.in_ok-put_warning.ensures ∙ ap (λ t. c.args.m.now ++ warning_diagnostic encoding c.args.number t warning) c.text.ensures.value)

pub returns-in_ok-put_warning-clause-passed : goal.returns-in_ok-put_warning-clause-passed
returns-in_ok-put_warning-clause-passed g c =
    let shown = g.T.View.shown c.args.told.now in
    let some = c.in-Some.ensures ∙ ap (λ (s : ShownLine). warning_of shown s.stmt.body) c.requires.line in
    let here = warning_here c.args.context.now.encoding shown c.args.number (shown.line c.args.number) (warning_seen c.in-Some.warning) some in
    one_passed c.args.window.now _ _ _ here c.shows_next.ensures.passed
