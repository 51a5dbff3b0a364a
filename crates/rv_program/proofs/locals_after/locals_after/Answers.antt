use Rattle.std.proofs.Common.{◌≡◌, ℕ, [], ◌∷◌, if◌then◌else◌, length, ap, sym, ◌∙◌, subst}
use Rattle.rv_program.specs.internal.Before.{lines_before, edit_on}
use Rattle.rv_program.specs.internal.Locals.{lines_with, with_last}
use Rattle.rv_program.specs.internal.MovedLocals.{line_put_in, row_after}
use Rattle.rv_program.specs.internal.Rows.{AreLocals}
use Rattle.rv_program.specs.Program.{program_of}
use Rattle.rv_program.specs.References.{among_local}
use Rattle.rv_program.specs.lemmas.LocalLines.{rows-AreRising}
use Rattle.rv_program.proofs.MovedLocals.{moved-locals}
use Rattle.rv_program.proofs.locals_after.locals_after.Goals as goal

pub of_rows-requires-clause-rising : goal.of_rows-requires-clause-rising
of_rows-requires-clause-rising c =
    let before = c.args.before.now in
    let labels = c.labels_put_in-labels.result in
    let put = c.put_line.new.self in
    let has : (number : ℕ) → lines_with put number ≡ line_put_in (edit_on before) (among_local number labels) =
    λ number.
    c.in_ok-put_line.ensures.ok number
    ∙ ap (λ rs. with_last c.place.result (among_local number labels) (lines_with rs number)) c.new-put_in.ensures
    ∙ ap (λ p. if among_local number labels then p ∷ [] else []) c.place.ensures.value in
    let made : (number : ℕ) → lines_with c.in_ok-rows.rows.items number ≡ row_after (edit_on before) (lines_with put number) (lines_with before.symbols.text.locals.now number) =
    λ number.
    c.in_ok-rows.ensures.lines number
    ∙ (λ i. row_after (edit_on before) (lines_with (c.rows.ensures.rows i) number) (lines_with (c.rows-2.ensures.rows i) number)) in
    let are = moved-locals (lines_before before) c.args.lines.now (edit_on before) labels before.symbols.text.locals.now put c.in_ok-rows.rows.items c.requires.before.symbols.text.located c.requires.before.few c.requires.before.allowed c.requires.edited c.labels_put_in-labels.ensures has made in
    rows-AreRising (program_of c.args.lines.now) (length c.args.lines.now) c.in_ok-rows.rows.items are

pub returns : goal.returns
returns c =
    let before = c.args.before.now in
    let labels = c.labels_put_in-labels.result in
    let put = c.put_line.new.self in
    let has : (number : ℕ) → lines_with put number ≡ line_put_in (edit_on before) (among_local number labels) =
    λ number.
    c.in_ok-put_line.ensures.ok number
    ∙ ap (λ rs. with_last c.place.result (among_local number labels) (lines_with rs number)) c.new-put_in.ensures
    ∙ ap (λ p. if among_local number labels then p ∷ [] else []) c.place.ensures.value in
    let made : (number : ℕ) → lines_with c.in_ok-rows.rows.items number ≡ row_after (edit_on before) (lines_with put number) (lines_with before.symbols.text.locals.now number) =
    λ number.
    c.in_ok-rows.ensures.lines number
    ∙ (λ i. row_after (edit_on before) (lines_with (c.rows.ensures.rows i) number) (lines_with (c.rows-2.ensures.rows i) number)) in
    let are = moved-locals (lines_before before) c.args.lines.now (edit_on before) labels before.symbols.text.locals.now put c.in_ok-rows.rows.items c.requires.before.symbols.text.located c.requires.before.few c.requires.before.allowed c.requires.edited c.labels_put_in-labels.ensures has made in
    subst (AreLocals (program_of c.args.lines.now) (length c.args.lines.now)) (sym c.of_rows.ensures) are
