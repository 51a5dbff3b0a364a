use Rattle.std.proofs.Common.{◌≡◌, ◌+◌, ◌≤◌, ◌<◌, length, get_or, set, replicate, None, rules, arith, ap, sym, refl, subst, ◌∙◌}
use Rattle.std.proofs.lemmas.List.{length-replicate}
use Rattle.rv_layout.specs.Places.{AreLimited}
use Rattle.rv_program.specs.Layout.{shape_at}
use Rattle.rv_program.specs.Program.{program_of, for_lines}
use Rattle.rv_program.specs.internal.Before.{base_before, lines_before, edit_on}
use Rattle.rv_program.specs.internal.Rows.{AreConstants}
use Rattle.rv_program.specs.internal.Work.{constant_operands, work}
use Rattle.rv_program.specs.lemmas.ConstantRows.{constants-none}
use Rattle.rv_program.specs.lemmas.NewShapeLaws.{through-start, through-end}
use Rattle.rv_program.specs.lemmas.Programs.{length-program}
use Rattle.rv_program.specs.lemmas.ShapeWork.{constant-work, nothing-shaped}
use Rattle.rv_store.proofs.FormerShapes.{former, former-length, former-is, through-length, through-here, through-set, through-all}
use Rattle.rv_store.proofs.SettledShapes.{operands-through, settled-past}
use Rattle.rv_store.proofs.ShapeRows.{limited-set, limited-former}
use Rattle.rv_store.proofs.shapes.settled_shapes.Goals as goal

pub loop-i-init : goal.loop-i-init
loop-i-init g c =
    let before = c.args.before.now in
    let lines = c.args.lines.now in
    let made : c.in_ok-constants.constants.items ≡ replicate (length c.args.definitions.now) None = search rules in
    let none : c.in_ok-rows.rows.constants.items ≡ replicate (length c.args.definitions.now) None = ap (λ row. row.items) c.in_ok-rows.ensures.constants ∙ made in
    let past = c.next_of_kind-i.ensures in
    let start = g.C.Count.valued_count c.args.counter.now in
    let within : c.next_of_kind-i.result ≤ length lines = omega (arith, past.within, ap length c.requires.searched) in
    record {
      within = within;
      settled = settled-past before c.requires.before lines c.requires.after c.args.shape c.requires.shape start c.in_ok-rows.rows.shapes.items c.in_ok-rows.rows.constants.items start 0 c.next_of_kind-i.result past.up within (past.passed lines c.requires.searched)
          (record {
            shapes = c.in_ok-rows.ensures.shapes;
            constants = rw none (constants-none (program_of lines) before.symbols.text.names.now (length c.args.definitions.now) c.requires.definitions.within);
            most = omega arith;
            work = omega (arith, through-start (lines_before before) (edit_on before) c.requires.before.allowed);
          });
      limited = subst AreLimited (sym c.in_ok-rows.ensures.shapes) (limited-former before.shapes.now (edit_on before) c.args.shape c.requires.before.limited c.requires.limited);
      as_many = rw none (length-replicate (length c.args.definitions.now) None);
      still = c.in_ok-rows.ensures.still;
      least = omega arith;
      parsed = refl;
      encoded = refl;
    }

pub settle_line-requires-clause-shapes : goal.settle_line-requires-clause-shapes
settle_line-requires-clause-shapes g c =
    let before = c.args.before.now in
    let lines = c.args.lines.now in
    let rest = former before c.requires.before lines c.requires.after c.args.shape in
    let count = former-length before c.requires.before lines c.requires.after c.args.shape in
    let through = through-length (program_of lines) rest c.loop-i.i (omega (arith, count, c.loop-i-test.true)) in
    subst (λ row. c.loop-i.i < length row) (sym c.loop-i.invariant.settled.shapes) (omega (arith, through, count, c.loop-i-test.true))

pub settle_line-requires-clause-former : goal.settle_line-requires-clause-former
settle_line-requires-clause-former g c =
    λ other.
    let before = c.args.before.now in
    let lines = c.args.lines.now in
    let rest = former before c.requires.before lines c.requires.after c.args.shape in
    let there : c.loop-i.i < length rest = omega (arith, former-length before c.requires.before lines c.requires.after c.args.shape, c.loop-i-test.true) in
    ap (λ row. get_or row c.loop-i.i other) c.loop-i.invariant.settled.shapes
    ∙ through-here (program_of lines) rest c.loop-i.i other there
    ∙ former-is before c.requires.before lines c.requires.after c.args.shape c.requires.shape c.loop-i.i other c.loop-i-test.true

pub settle_line-requires-clause-as_many : goal.settle_line-requires-clause-as_many
settle_line-requires-clause-as_many g c = c.loop-i.invariant.as_many

pub settle_line-requires-clause-constants : goal.settle_line-requires-clause-constants
settle_line-requires-clause-constants g c = c.loop-i.invariant.settled.constants

pub settle_line-requires-clause-valued : goal.settle_line-requires-clause-valued
settle_line-requires-clause-valued g c =
    omega (arith, c.loop-i.invariant.settled.most, c.loop-i-test.true, c.requires.few, c.requires.valued)

pub loop-i-preserved : goal.loop-i-preserved
loop-i-preserved g c =
    let so_far = c.loop-i.invariant in
    let before = c.args.before.now in
    let lines = c.args.lines.now in
    let i = c.loop-i.i in
    let program = program_of lines in
    let rest = former before c.requires.before lines c.requires.after c.args.shape in
    let there : i < length rest = omega (arith, former-length before c.requires.before lines c.requires.after c.args.shape, c.loop-i-test.true) in
    let settled = c.settle_line.ensures in
    let rows = c.settle_line.new.rows in
    let start = g.C.Count.valued_count c.args.counter.now in
    let count = g.C.Count.valued_count c.settle_line.new.counter in
    let past = c.next_of_kind-i-in-loop-i.ensures in
    let next = c.next_of_kind-i-in-loop-i.result in
    let within : next ≤ length lines = omega (arith, past.within, ap length c.requires.searched) in
    let operands = operands-through before c.requires.before lines c.requires.after c.args.shape c.requires.shape start rows.shapes.items rows.constants.items count i in
    record {
      within = within;
      settled = settled-past before c.requires.before lines c.requires.after c.args.shape c.requires.shape start rows.shapes.items rows.constants.items count (i + 1) next past.up within (past.passed lines c.requires.searched)
          (record {
            shapes = settled.shapes ∙ ap (λ row. set row i (shape_at program (i + 1))) so_far.settled.shapes ∙ through-set program rest i there;
            constants = settled.constants;
            most = omega (arith, so_far.settled.most, settled.two);
            work = omega (arith, so_far.settled.work, settled.work, operands);
          });
      limited = subst AreLimited (sym settled.shapes) (limited-set c.loop-i.rows.shapes.items i (shape_at program (i + 1)) so_far.limited settled.limited);
      as_many = settled.as_many;
      still = λ is.
          let stays = settled.still is in
          let unmoved = so_far.still stays.0 in
          record { shape = unmoved.shape; none = unmoved.none; shapes = stays.1 ∙ unmoved.shapes };
      least = omega (arith, so_far.least, settled.least);
      parsed = settled.parsed ∙ so_far.parsed;
      encoded = settled.encoded ∙ so_far.encoded;
    }

pub returns-clause-shapes : goal.returns-clause-shapes
returns-clause-shapes g c =
    let lines = c.args.lines.now in
    let program = program_of lines in
    let before = c.args.before.now in
    let rest = former before c.requires.before lines c.requires.after c.args.shape in
    let all : c.loop-i.i ≡ length program = omega (arith, c.loop-i.invariant.within, c.loop-i-test.false, length-program lines) in
    let none : length rest ≤ c.loop-i.i = omega (arith, former-length before c.requires.before lines c.requires.after c.args.shape, c.loop-i-test.false) in
    c.loop-i.invariant.settled.shapes ∙ through-all program rest c.loop-i.i none ∙ ap (for_lines (shape_at program)) all

pub returns-clause-constants : goal.returns-clause-constants
returns-clause-constants g c =
    let all : c.loop-i.i ≡ length c.args.lines.now = omega (arith, c.loop-i.invariant.within, c.loop-i-test.false) in
    subst (λ n. AreConstants (program_of c.args.lines.now) n c.args.before.now.symbols.text.names.now c.loop-i.rows.constants.items) all c.loop-i.invariant.settled.constants

pub returns-clause-least : goal.returns-clause-least
returns-clause-least g c = c.loop-i.invariant.least

pub returns-clause-most : goal.returns-clause-most
returns-clause-most g c = omega (arith, c.loop-i.invariant.settled.most, c.loop-i.invariant.within)

pub returns-clause-work : goal.returns-clause-work
returns-clause-work g c =
    let before = c.args.before.now in
    let all : c.loop-i.i ≡ length c.args.lines.now = omega (arith, c.loop-i.invariant.within, c.loop-i-test.false) in
    let sum = constant-work (base_before before) (lines_before before) (edit_on before) c.loop-i.i in
    let last = ap (work constant_operands (base_before before) (lines_before before) (edit_on before)) all in
    let whole = through-end (lines_before before) (edit_on before) c.loop-i.i c.requires.before.allowed (all ∙ ap length c.requires.after) in
    omega (arith, c.loop-i.invariant.settled.work, sum, last, whole)

pub returns-clause-parsed : goal.returns-clause-parsed
returns-clause-parsed g c = c.loop-i.invariant.parsed

pub returns-clause-encoded : goal.returns-clause-encoded
returns-clause-encoded g c = c.loop-i.invariant.encoded

pub returns-in_err-constants-clause-work : goal.returns-in_err-constants-clause-work
returns-in_err-constants-clause-work g c =
    let before = c.args.before.now in
    omega (arith, nothing-shaped (base_before before) (lines_before before) (edit_on before) c.requires.before.allowed (length c.args.lines.now) (ap length c.requires.after))

pub returns-in_err-rows-clause-work : goal.returns-in_err-rows-clause-work
returns-in_err-rows-clause-work g c =
    let before = c.args.before.now in
    omega (arith, nothing-shaped (base_before before) (lines_before before) (edit_on before) c.requires.before.allowed (length c.args.lines.now) (ap length c.requires.after))
