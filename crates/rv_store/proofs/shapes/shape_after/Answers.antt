use Rattle.std.proofs.Common.{◌≡◌, ◌+◌, None, arith, ap, sym, subst, ◌∙◌}
use Rattle.rv_stmt.specs.Statement.{statement_of}
use Rattle.rv_layout.specs.Places.{IsLimited}
use Rattle.rv_layout.specs.Shapes.{size_operands}
use Rattle.rv_program.specs.internal.Before.{base_before, lines_before, edit_on}
use Rattle.rv_store.specs.internal.EditedRows.{shape_or}
use Rattle.rv_program.specs.Layout.{shape_at}
use Rattle.rv_program.specs.Program.{program_of}
use Rattle.rv_program.specs.internal.Rows.{in_row}
use Rattle.rv_program.specs.lemmas.KeptShapes.{constants-on, body-on, shape-on, shape-stays, constant-invalidates, work-on}
use Rattle.rv_program.specs.lemmas.NewShapeLaws.{through-new, through-stood}
use Rattle.rv_store.proofs.ShapeRows.{limited-on}
use Rattle.rv_program.specs.lemmas.WorkLaws.{work-up}
use Rattle.rv_store.proofs.shapes.shape_after.Goals as goal

pub returns-in_default-clause-shape : goal.returns-in_default-clause-shape
returns-in_default-clause-shape g c =
    let before = c.args.before.now in
    let old = program_of (lines_before before) in
    c.requires.former ∙ ap (shape_or (shape_at (program_of c.args.lines.now) (c.args.i + 1)) (shape_at old)) (sym c.line_before.ensures ∙ c.in_default.is)

pub returns-in_default-clause-limited : goal.returns-in_default-clause-limited
returns-in_default-clause-limited g c =
    let before = c.args.before.now in
    let old = program_of (lines_before before) in
    let is = c.requires.former ∙ ap (shape_or (shape_at (program_of c.args.lines.now) (c.args.i + 1)) (shape_at old)) (sym c.line_before.ensures ∙ c.in_default.is) in
    subst IsLimited (sym is) (limited-on c.args.lines.now c.args.i c.index-lines-i.result c.args.given.now.names.now c.args.given.now.row.now c.requires.within c.index-lines-i.is c.requires.constants c.shapes_are_limited.ensures c.data_are_few.ensures)

pub returns-in_default-clause-work : goal.returns-in_default-clause-work
returns-in_default-clause-work g c =
    let before = c.args.before.now in
    let more = through-new (base_before before) (lines_before before) (edit_on before) c.requires.before.allowed c.args.i (sym c.line_before.ensures ∙ c.in_default.is) in
    omega (arith, more)

-- the shape that stays
stays : (g : _) (c : goal.Then-not-may_differ g) → c.args.former ≡ shape_at (program_of c.args.lines.now) (c.args.i + 1)
stays g c =
    let before = c.args.before.now in
    let lines = c.args.lines.now in
    let given = c.args.given.now in
    let old = program_of (lines_before before) in
    let text = c.index-lines-i-2.result in
    let there = sym c.line_before.ensures ∙ c.in-Some.is in
    c.requires.former ∙ ap (shape_or (shape_at (program_of lines) (c.args.i + 1)) (shape_at old)) there
    ∙ sym (shape-stays before c.requires.before lines c.requires.after c.args.i c.in-Some.stood c.requires.within there
    (in_row given.names.now given.row.now None) (constants-on (program_of lines) c.args.i given.names.now given.row.now c.requires.constants)
    (statement_of text).body (body-on lines c.args.i text c.requires.within c.index-lines-i-2.is) (sym c.may_differ.ensures ∙ c.if-not-may_differ.true))

pub returns-then-not-may_differ-clause-shape : goal.returns-then-not-may_differ-clause-shape
returns-then-not-may_differ-clause-shape g c = stays g c

pub returns-then-not-may_differ-clause-limited : goal.returns-then-not-may_differ-clause-limited
returns-then-not-may_differ-clause-limited g c = subst IsLimited (sym (stays g c)) (limited-on c.args.lines.now c.args.i c.index-lines-i.result c.args.given.now.names.now c.args.given.now.row.now c.requires.within c.index-lines-i.is c.requires.constants c.shapes_are_limited.ensures c.data_are_few.ensures)

pub returns-then-not-may_differ-clause-work : goal.returns-then-not-may_differ-clause-work
returns-then-not-may_differ-clause-work g c =
    let before = c.args.before.now in
    let same = through-stood (edit_on before) c.args.i c.in-Some.stood (sym c.line_before.ensures ∙ c.in-Some.is) in
    let more = work-up size_operands (base_before before) (lines_before before) (edit_on before) c.args.i (c.args.i + 1) (omega arith) in
    omega (arith, same, more)

pub returns-clause-shape : goal.returns-clause-shape
returns-clause-shape g c =
    let given = c.args.given.now in
    c.shape_of_line.ensures.shape
    ∙ shape-on c.args.lines.now c.args.i c.index-lines-i-3.result given.names.now given.row.now c.requires.within c.index-lines-i-3.is c.requires.constants

-- a line whose shape is computed is invalidated
pub returns-clause-work : goal.returns-clause-work
returns-clause-work g c =
    let before = c.args.before.now in
    let lines = c.args.lines.now in
    let given = c.args.given.now in
    let base = base_before before in
    let old = lines_before before in
    let edit = edit_on before in
    let there = sym c.line_before.ensures ∙ c.in-Some.is in
    let text = c.index-lines-i-2.result in
    let invalidated = constant-invalidates before c.requires.before lines c.requires.after c.args.i c.in-Some.stood c.requires.within there
    (in_row given.names.now given.row.now None) (constants-on (program_of lines) c.args.i given.names.now given.row.now c.requires.constants)
    (statement_of text).body (body-on lines c.args.i text c.requires.within c.index-lines-i-2.is) (sym c.may_differ.ensures ∙ c.if-not-may_differ.false) in
    let more = work-on base old edit lines c.requires.after c.args.i c.index-lines-i-3.result c.requires.within c.index-lines-i-3.is invalidated in
    let same = through-stood edit c.args.i c.in-Some.stood there in
    omega (arith, more, same, c.shape_of_line.ensures.most)
