use Rattle.std.proofs.Common.{◌≡◌, ℕ, ◌+◌, ◌≤◌, List, length, arith, ap, subst, ◌∙◌}
use Rattle.rv_program.specs.Layout.{shape_at}
use Rattle.rv_program.specs.Program.{program_of}
use Rattle.rv_program.specs.internal.Work.{constant_operands, equ_operands, high_operands, survey_operands, operands_through}
use Rattle.rv_program.specs.lemmas.Programs.{length-for_lines}
use Rattle.rv_program.specs.lemmas.WholeWork.{survey-operands}
use Rattle.rv_store.specs.internal.Drafts.{AreShapedThrough}
use Rattle.rv_store.proofs.survey.Survey.of_lines.Goals as goal

-- what is computed for the shapes, and for the other rows

for-shapes : (read lines : List (List ℕ)) → read ≡ lines → (old new : ℕ) → new ≤ old + operands_through constant_operands (program_of read) (length read) → new ≤ old + operands_through survey_operands (program_of lines) (length lines)
for-shapes read lines is old new most =
    let all = survey-operands (program_of lines) (length lines) in
    let same = ap (λ ls. operands_through constant_operands (program_of ls) (length ls)) is in
    omega (arith, most, all, same)

for-all : (read lines : List (List ℕ)) → read ≡ lines → (old mid new : ℕ) → mid ≤ old + operands_through constant_operands (program_of read) (length read) → new ≤ mid + operands_through equ_operands (program_of lines) (length lines) + operands_through high_operands (program_of lines) (length lines) → new ≤ old + operands_through survey_operands (program_of lines) (length lines)
for-all read lines is old mid new most rest =
    let all = survey-operands (program_of lines) (length lines) in
    let same = ap (λ ls. operands_through constant_operands (program_of ls) (length ls)) is in
    omega (arith, most, rest, all, same)

pub returns-in_err-sized-clause-operands : goal.returns-in_err-sized-clause-operands
returns-in_err-sized-clause-operands g c =
    for-shapes c.as_slice-read.result.now c.args.lines.items c.as_slice-read.ensures (g.C.Count.valued_count c.args.counter.now) (g.C.Count.valued_count c.shapes_of.new.counter) c.shapes_of.ensures.operands

pub returns-in_err-placed-clause-operands : goal.returns-in_err-placed-clause-operands
returns-in_err-placed-clause-operands g c =
    for-shapes c.as_slice-read.result.now c.args.lines.items c.as_slice-read.ensures (g.C.Count.valued_count c.args.counter.now) (g.C.Count.valued_count c.shapes_of.new.counter) c.shapes_of.ensures.operands

pub returns-in_err-locals-clause-operands : goal.returns-in_err-locals-clause-operands
returns-in_err-locals-clause-operands g c =
    for-shapes c.as_slice-read.result.now c.args.lines.items c.as_slice-read.ensures (g.C.Count.valued_count c.args.counter.now) (g.C.Count.valued_count c.shapes_of.new.counter) c.shapes_of.ensures.operands

pub returns-clause-operands : goal.returns-clause-operands
returns-clause-operands g c =
    for-all c.as_slice-read.result.now c.args.lines.items c.as_slice-read.ensures (g.C.Count.valued_count c.args.counter.now) (g.C.Count.valued_count c.shapes_of.new.counter) (g.C.Count.valued_count c.of_rows.new.counter) c.shapes_of.ensures.operands c.of_rows.ensures.operands

pub of-requires-clause-few : goal.of-requires-clause-few
of-requires-clause-few g c =
    let read = c.as_slice-read.result.now in
    let count = ap length (c.deref-2.ensures.value ∙ c.in_ok-sized.ensures.shapes.shapes) ∙ length-for_lines (shape_at (program_of read)) (length read) ∙ ap length c.as_slice-read.ensures in
    omega (arith, count, c.requires.few)

pub of_rows-requires-clause-sized : goal.of_rows-requires-clause-sized
of_rows-requires-clause-sized g c =
    subst (λ ls. AreShapedThrough ls c.definitions_of.new.names (length ls) c.in_ok-sized.sized) c.as_slice-read.ensures c.in_ok-sized.ensures.shapes
