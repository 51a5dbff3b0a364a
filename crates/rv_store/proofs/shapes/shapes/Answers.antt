use Rattle.std.proofs.Common.{◌≡◌, ◌≤◌, None, length, arith, ap, sym, subst, ◌∙◌}
use Rattle.std.specs.Result.{IfOk}
use Rattle.std.proofs.lemmas.Result.{IfOk-weaker}
use Rattle.rv_layout.specs.Places.{AreLimited}
use Rattle.rv_program.specs.Constants.{constant_through}
use Rattle.rv_program.specs.Program.{program_of}
use Rattle.rv_program.specs.internal.Before.{base_before, lines_before, edit_on}
use Rattle.rv_program.specs.internal.Rows.{in_row, AreConstants}
use Rattle.rv_program.specs.lemmas.ShapeWork.{nothing-shaped}
use Rattle.rv_store.specs.internal.NoDefinitions.{KeepsConstants}
use Rattle.rv_store.proofs.KeptConstants.{keeps-constants, shapes-kept}
use Rattle.rv_store.proofs.ShapeRows.{limited-former}
use Rattle.rv_store.proofs.shapes.shapes.Goals as goal

pub returns-clause-shapes : goal.returns-clause-shapes
returns-clause-shapes g c =
    let before = c.args.before.now in
    let keeps : KeepsConstants (lines_before before) (edit_on before) = keeps-constants (lines_before before) (edit_on before) c.requires.before.allowed (sym c.changes_no_definition.ensures ∙ c.if-not-changes_no_definition.false) in
    IfOk-weaker c.former.result _ _ (λ rows are. are ∙ shapes-kept before c.requires.before c.args.searched.now c.requires.after c.args.shape c.requires.shape keeps) c.former.ensures.shapes

pub returns-clause-limited : goal.returns-clause-limited
returns-clause-limited g c =
    let before = c.args.before.now in
    IfOk-weaker c.former.result _ _
    (λ rows are. subst AreLimited (sym are) (limited-former before.shapes.now (edit_on before) c.args.shape c.requires.before.limited c.requires.limited))
    c.former.ensures.shapes

pub returns-clause-still : goal.returns-clause-still
returns-clause-still g c =
    c.former.ensures.still

pub returns-clause-constants : goal.returns-clause-constants
returns-clause-constants g c =
    let before = c.args.before.now in
    let former = c.requires.before.symbols.constants in
    let keeps : KeepsConstants (lines_before before) (edit_on before) = keeps-constants (lines_before before) (edit_on before) c.requires.before.allowed (sym c.changes_no_definition.ensures ∙ c.if-not-changes_no_definition.false) in
    let copied : c.in_ok-constants.constants.items ≡ before.symbols.constants.now = c.in_ok-constants.ensures.items in
    IfOk-weaker c.former.result _ _
    (λ rows are.
    let row = ap (λ v. v.items) are ∙ copied in
    record {
      each = ap (λ items. in_row before.symbols.text.names.now items None) row
          ∙ former.each
          ∙ sym keeps.all
          ∙ (λ i. constant_through (program_of (sym c.requires.after i)) (length (sym c.requires.after i)));
      within = subst (λ items. length items ≤ length before.symbols.text.names.now) (sym row) former.within;
    })
    c.former.ensures.constants

pub returns-clause-work : goal.returns-clause-work
returns-clause-work g c =
    let before = c.args.before.now in
    omega (arith, nothing-shaped (base_before before) (lines_before before) (edit_on before) c.requires.before.allowed (length c.args.searched.now) (ap length c.requires.after))

pub returns-in_err-constants-clause-work : goal.returns-in_err-constants-clause-work
returns-in_err-constants-clause-work g c =
    let before = c.args.before.now in
    omega (arith, nothing-shaped (base_before before) (lines_before before) (edit_on before) c.requires.before.allowed (length c.args.searched.now) (ap length c.requires.after))

pub returns-then-not-changes_no_definition-clause-constants : goal.returns-then-not-changes_no_definition-clause-constants
returns-then-not-changes_no_definition-clause-constants g c =
    subst (λ lines. IfOk c.settled_shapes.result (λ r. AreConstants (program_of lines) (length lines) c.args.before.now.symbols.text.names.now r.constants.items))
    c.lines-then-not-changes_no_definition.ensures
    c.settled_shapes.ensures.constants
