use Rattle.std.proofs.Common.{◌≡◌, ℕ, ◌-◌, Bool, true, false, List, length, arith, ap, sym, subst, ◌∙◌, refl}
use Rattle.rv_program.specs.Counted.{counts_of}
use Rattle.rv_program.specs.Edits.{edit_of, place_of_edit}
use Rattle.rv_program.specs.Changes.{is_changed}
use Rattle.rv_program.specs.Program.{program_of, lines_that}
use Rattle.rv_program.specs.internal.Items.{AreItems}
use Rattle.rv_program.specs.internal.Rows.{AreHighs}
use Rattle.rv_program.specs.internal.Still.{set_or_push}
use Rattle.rv_program.specs.lemmas.Programs.{length-program}
use Rattle.rv_store.specs.internal.Appended.{AreSymbols}
use Rattle.rv_store.specs.internal.Renewed.{edited_by}
use Rattle.rv_store.specs.internal.Surveys.{IsSurvey}
use Rattle.rv_store.proofs.StillRows.{in_any_error, partly, partly-none, partly-still, symbols-of, symbols-same, count-shapes, count-places, unsettled, may-wait, rows-whole}
use Rattle.rv_store.proofs.PutHighs.{same-lines, same-symbols, high-counted}
use Rattle.rv_store.proofs.ItemsLeft.{put-by, counted-by}
use Rattle.rv_store.proofs.StillTexts.{within-next, counted-put, counted-defined}
use Rattle.rv_store.proofs.still.put_still.Goals as goal

pub put_line-requires-clause-lines : goal.put_line-requires-clause-lines
put_line-requires-clause-lines g c =
    let next = within-next c.requires.still.still in omega (arith, next, c.place.ensures.value, length-program c.args.survey.now.lines.items)

pub put_line-requires-clause-shapes : goal.put_line-requires-clause-shapes
put_line-requires-clause-shapes g c = count-shapes c.args.base c.args.survey.now.lines.items c.args.names.now c.args.survey.now c.requires.survey

pub put_line-requires-clause-places : goal.put_line-requires-clause-places
put_line-requires-clause-places g c = count-places c.args.base c.args.survey.now.lines.items c.args.names.now c.args.survey.now c.requires.survey

-- Without memory

pub returns-in_err-new-clause-err : goal.returns-in_err-new-clause-err
returns-in_err-new-clause-err g c = in_any_error c.from_residual.result (partly-none ((place_of_edit (edit_of c.args.edit.now)) - 1) c.args.survey.now c.requires.survey.locals)

pub returns-in_err-new-clause-symbols : goal.returns-in_err-new-clause-symbols
returns-in_err-new-clause-symbols g c = in_any_error c.from_residual.result (symbols-of c.args.base c.args.survey.now.lines.items c.args.names.now c.args.survey.now c.requires.survey)

pub returns-in_err-put_line-clause-err : goal.returns-in_err-put_line-clause-err
returns-in_err-put_line-clause-err g c =
    in_any_error c.from_residual-in_err-put_line.result (rw c.place.ensures.value at c.in_err-put_line.ensures.err)

pub returns-in_err-put_line-clause-symbols : goal.returns-in_err-put_line-clause-symbols
returns-in_err-put_line-clause-symbols g c =
    let lines = c.args.survey.now.lines.items in
    in_any_error c.from_residual-in_err-put_line.result
    (symbols-same c.args.base (program_of lines) (length lines) c.args.names.now c.args.survey.now c.put_line.new.self c.put_line.ensures.symbols (symbols-of c.args.base lines c.args.names.now c.args.survey.now c.requires.survey))

pub define_last-requires-clause-unsettled : goal.define_last-requires-clause-unsettled
define_last-requires-clause-unsettled g c =
    may-wait c.requires.still c.args.names.now c.args.survey.now c.put_line.new.self c.requires.survey (rw c.place.ensures.value at c.in_ok-put_line.ensures.ok) c.in_ok-new.new c.in_ok-new.ensures (rw c.requires.edited.edited at c.requires.few) c.put_line.ensures.symbols refl

pub returns-in_err-define_last-clause-err : goal.returns-in_err-define_last-clause-err
returns-in_err-define_last-clause-err g c =
    let place = (place_of_edit (edit_of c.args.edit.now)) - 1 in
    in_any_error c.from_residual-in_err-define_last.result
    (partly-still place c.args.survey.now c.put_line.new.self c.define_last.new.self (partly place c.args.line c.args.still.now c.args.survey.now c.put_line.new.self c.requires.survey.locals (rw c.place.ensures.value at c.in_ok-put_line.ensures.ok)) c.define_last.ensures.lines)

pub returns-in_err-define_last-clause-symbols : goal.returns-in_err-define_last-clause-symbols
returns-in_err-define_last-clause-symbols g c =
    in_any_error c.from_residual-in_err-define_last.result
    (c.in_err-define_last.ensures.err c.args.survey.now.lines.items
    (unsettled c.requires.still c.args.names.now c.args.survey.now c.put_line.new.self c.requires.survey (rw c.place.ensures.value at c.in_ok-put_line.ensures.ok) c.in_ok-new.new c.in_ok-new.ensures (rw c.requires.edited.edited at c.requires.few) c.put_line.ensures.symbols refl c.in_err-define_last.ensures.defines))

-- The text with the line

pub put_items-requires-clause-rows : goal.put_items-requires-clause-rows
put_items-requires-clause-rows g c =
    rows-whole c.requires.still c.args.names.now c.args.survey.now c.put_line.new.self c.requires.survey (rw c.place.ensures.value at c.in_ok-put_line.ensures.ok) c.define_last.new.names c.define_last.new.self c.define_last.ensures.lines c.in_ok-define_last.ensures.symbols refl

pub put_items-requires-clause-highs : goal.put_items-requires-clause-highs
put_items-requires-clause-highs g c =
    let ok = (rw c.place.ensures.value at c.in_ok-put_line.ensures.ok) in
    subst (λ ls. AreHighs c.args.base (program_of ls) c.define_last.new.self.highs.items) (sym c.requires.items.lines)
    (subst (AreHighs c.args.base (program_of c.args.survey.now.lines.items)) (sym (c.define_last.ensures.lines.highs ∙ ok.highs)) c.requires.survey.highs)

pub put_items-requires-clause-few : goal.put_items-requires-clause-few
put_items-requires-clause-few g c =
    let ok = (rw c.place.ensures.value at c.in_ok-put_line.ensures.ok) in omega (arith, c.requires.few, ap length (c.define_last.ensures.lines.lines ∙ ok.lines ∙ sym c.requires.edited.edited))

pub put_items-requires-clause-put : goal.put_items-requires-clause-put
put_items-requires-clause-put g c =
    let ok = (rw c.place.ensures.value at c.in_ok-put_line.ensures.ok) in
    put-by c.args.base c.args.survey.now.lines.items c.args.line c.args.still.now c.args.due.now c.args.items.now.items (edit_of c.args.edit.now) c.define_last.new.self.lines.items
    c.requires.still c.requires.edited c.requires.allowed c.requires.items (c.define_last.ensures.lines.lines ∙ ok.lines ∙ sym c.requires.edited.edited)

pub returns-in-Ok-clause-lines : goal.returns-in-Ok-clause-lines
returns-in-Ok-clause-lines g c =
    let ok = (rw c.place.ensures.value at c.in_ok-put_line.ensures.ok) in
    ap (λ v. v.items) c.put_items.ensures.others.lines ∙ c.define_last.ensures.lines.lines ∙ ok.lines ∙ sym c.requires.edited.edited

pub returns-in-Ok-clause-survey : goal.returns-in-Ok-clause-survey
returns-in-Ok-clause-survey g c =
    let ok = (rw c.place.ensures.value at c.in_ok-put_line.ensures.ok) in
    subst (λ ls. IsSurvey c.args.base (program_of ls) c.define_last.new.names c.put_items.new.survey)
    (ap (λ v. v.items) c.put_items.ensures.others.lines ∙ c.define_last.ensures.lines.lines ∙ ok.lines ∙ sym c.requires.edited.edited) c.in-Ok.ensures.survey

pub returns-in-Ok-clause-items : goal.returns-in-Ok-clause-items
returns-in-Ok-clause-items g c =
    let ok = (rw c.place.ensures.value at c.in_ok-put_line.ensures.ok) in
    subst (λ ls. AreItems c.args.base ls c.in-Ok.put.0.items) (c.define_last.ensures.lines.lines ∙ ok.lines ∙ sym c.requires.edited.edited) c.in-Ok.ensures.items

pub returns-in-Ok-clause-changed : goal.returns-in-Ok-clause-changed
returns-in-Ok-clause-changed g c =
    let ok = (rw c.place.ensures.value at c.in_ok-put_line.ensures.ok) in
    let whole = c.define_last.ensures.lines.lines ∙ ok.lines ∙ sym c.requires.edited.edited in
    let edit = edit_of c.args.edit.now in
    c.in-Ok.ensures.changed ∙ (λ j. lines_that (is_changed c.args.base (c.requires.items.lines j) edit) (length (whole j)))

pub returns-clause-err : goal.returns-clause-err
returns-clause-err g c =
    let place = (place_of_edit (edit_of c.args.edit.now)) - 1 in
    let old = c.args.survey.now in
    partly-still place old c.put_items.new.survey c.forget_last.new.self
    (partly-still place old c.define_last.new.self c.put_items.new.survey
    (partly-still place old c.put_line.new.self c.define_last.new.self (partly place c.args.line c.args.still.now old c.put_line.new.self c.requires.survey.locals (rw c.place.ensures.value at c.in_ok-put_line.ensures.ok)) c.define_last.ensures.lines)
    (same-lines c.define_last.new.self c.put_items.new.survey c.put_items.ensures.others c.in-Err.ensures.highs))
    c.forget_last.ensures.lines

pub forget_last-requires-clause-some : goal.forget_last-requires-clause-some
forget_last-requires-clause-some g c =
    let ok = (rw c.place.ensures.value at c.in_ok-put_line.ensures.ok) in
    let first = c.requires.still.still.first in
    let last = c.requires.still.still.last in
    omega (arith, first, last, length-program (set_or_push c.args.survey.now.lines.items ((place_of_edit (edit_of c.args.edit.now)) - 1) c.args.line), ap length (ap (λ v. v.items) c.put_items.ensures.others.lines ∙ c.define_last.ensures.lines.lines ∙ ok.lines))

pub forget_last-requires-clause-few : goal.forget_last-requires-clause-few
forget_last-requires-clause-few g c =
    let ok = (rw c.place.ensures.value at c.in_ok-put_line.ensures.ok) in
    omega (arith, c.requires.few, ap length (ap (λ v. v.items) c.put_items.ensures.others.lines ∙ c.define_last.ensures.lines.lines ∙ ok.lines ∙ sym c.requires.edited.edited))

pub forget_last-requires-clause-named : goal.forget_last-requires-clause-named
forget_last-requires-clause-named g c = rw c.put_items.ensures.others.definitions c.in_ok-define_last.ensures.symbols.definitions.within

pub returns-clause-symbols : goal.returns-clause-symbols
returns-clause-symbols g c = at c.args.still.now.defines refl
  where
    lines : List (List ℕ)
    lines = c.args.survey.now.lines.items

    at : (b : Bool) → c.args.still.now.defines ≡ b → AreSymbols c.args.base (program_of lines) (length lines) c.define_last.new.names c.forget_last.new.self
    at true is =
        let was = unsettled c.requires.still c.args.names.now c.args.survey.now c.put_line.new.self c.requires.survey (rw c.place.ensures.value at c.in_ok-put_line.ensures.ok) c.in_ok-new.new c.in_ok-new.ensures (rw c.requires.edited.edited at c.requires.few) c.put_line.ensures.symbols refl is in
        let listed = ap (λ v. v.items) c.put_items.ensures.others.lines in
        let defined = symbols-same c.args.base (program_of c.define_last.new.self.lines.items) (length c.define_last.new.self.lines.items) c.define_last.new.names c.define_last.new.self c.put_items.new.survey (same-symbols c.define_last.new.self c.put_items.new.survey c.put_items.ensures.others) c.in_ok-define_last.ensures.symbols in
        c.forget_last.ensures.symbols is c.args.base lines (listed ∙ c.define_last.ensures.lines.lines ∙ was.more) was.earlier
        (subst (λ ls. AreSymbols c.args.base (program_of ls) (length ls) c.define_last.new.names c.put_items.new.survey) (sym listed) defined)
    at false is =
        let none = c.define_last.ensures.none is in
        let before = symbols-same c.args.base (program_of lines) (length lines) c.args.names.now c.args.survey.now c.put_line.new.self c.put_line.ensures.symbols (symbols-of c.args.base lines c.args.names.now c.args.survey.now c.requires.survey) in
        let defined = subst (λ names. AreSymbols c.args.base (program_of lines) (length lines) names c.define_last.new.self) (sym none.0) (symbols-same c.args.base (program_of lines) (length lines) c.args.names.now c.put_line.new.self c.define_last.new.self none.1 before) in
        symbols-same c.args.base (program_of lines) (length lines) c.define_last.new.names c.put_items.new.survey c.forget_last.new.self (c.forget_last.ensures.none is)
        (symbols-same c.args.base (program_of lines) (length lines) c.define_last.new.names c.define_last.new.self c.put_items.new.survey (same-symbols c.define_last.new.self c.put_items.new.survey c.put_items.ensures.others) defined)

-- What is counted

pub returns-in_err-new-clause-counted : goal.returns-in_err-new-clause-counted
returns-in_err-new-clause-counted g c =
    let counts = counts_of g.C.Count.parsed_count g.C.Count.valued_count g.C.Count.encoded_count c.args.counter.now in
    counted-defined (edited_by c.args.base c.args.survey.now.lines.items c.args.edit.now) c.requires.still.still c.requires.edited c.requires.allowed counts counts refl (omega arith) (omega arith) (omega arith) refl

pub returns-in_err-put_line-clause-counted : goal.returns-in_err-put_line-clause-counted
returns-in_err-put_line-clause-counted g c =
    let counts = counts_of g.C.Count.parsed_count g.C.Count.valued_count g.C.Count.encoded_count c.args.counter.now in
    counted-defined (edited_by c.args.base c.args.survey.now.lines.items c.args.edit.now) c.requires.still.still c.requires.edited c.requires.allowed counts counts refl (omega arith) (omega arith) (omega arith) refl

pub returns-in_err-define_last-clause-counted : goal.returns-in_err-define_last-clause-counted
returns-in_err-define_last-clause-counted g c =
    let counts = counts_of g.C.Count.parsed_count g.C.Count.valued_count g.C.Count.encoded_count in
    let most = c.define_last.ensures.most in
    let operands = rw c.in_ok-new.ensures at c.define_last.ensures.operands in
    counted-defined (edited_by c.args.base c.args.survey.now.lines.items c.args.edit.now) c.requires.still.still c.requires.edited c.requires.allowed (counts c.args.counter.now) (counts c.define_last.new.counter)
    c.define_last.ensures.parsed c.define_last.ensures.least (omega (arith, most)) (omega (arith, operands)) c.define_last.ensures.encoded

pub returns-in-Ok-clause-counted : goal.returns-in-Ok-clause-counted
returns-in-Ok-clause-counted g c =
    let counts = counts_of g.C.Count.parsed_count g.C.Count.valued_count g.C.Count.encoded_count in
    let ok = (rw c.place.ensures.value at c.in_ok-put_line.ensures.ok) in
    let whole = c.define_last.ensures.lines.lines ∙ ok.lines ∙ sym c.requires.edited.edited in
    let most = c.define_last.ensures.most in
    let operands = rw c.in_ok-new.ensures at c.define_last.ensures.operands in
    let least = c.define_last.ensures.least in
    let all = c.put_items.ensures.counted in
    let high = high-counted c.requires.still in
    counted-put (edited_by c.args.base c.args.survey.now.lines.items c.args.edit.now) c.requires.still.still c.requires.edited c.requires.allowed (counts c.args.counter.now) all.between
    (all.parsed ∙ c.define_last.ensures.parsed) (let more = all.least in omega (arith, least, more)) (let more = all.most in omega (arith, most, more, high.0)) (let more = all.most in omega (arith, operands, more, high.1)) (all.encoded ∙ c.define_last.ensures.encoded) (counts c.put_items.new.counter)
    (counted-by c.args.base c.args.survey.now.lines.items c.args.items.now.items c.args.edit.now c.define_last.new.self.lines.items c.requires.items.lines whole _ _ all.items)

pub returns-clause-counted : goal.returns-clause-counted
returns-clause-counted g c =
    let counts = counts_of g.C.Count.parsed_count g.C.Count.valued_count g.C.Count.encoded_count in
    let ok = (rw c.place.ensures.value at c.in_ok-put_line.ensures.ok) in
    let whole = c.define_last.ensures.lines.lines ∙ ok.lines ∙ sym c.requires.edited.edited in
    let most = c.define_last.ensures.most in
    let operands = rw c.in_ok-new.ensures at c.define_last.ensures.operands in
    let least = c.define_last.ensures.least in
    let all = c.put_items.ensures.counted in
    let high = high-counted c.requires.still in
    counted-put (edited_by c.args.base c.args.survey.now.lines.items c.args.edit.now) c.requires.still.still c.requires.edited c.requires.allowed (counts c.args.counter.now) all.between
    (all.parsed ∙ c.define_last.ensures.parsed) (let more = all.least in omega (arith, least, more)) (let more = all.most in omega (arith, most, more, high.0)) (let more = all.most in omega (arith, operands, more, high.1)) (all.encoded ∙ c.define_last.ensures.encoded) (counts c.put_items.new.counter)
    (counted-by c.args.base c.args.survey.now.lines.items c.args.items.now.items c.args.edit.now c.define_last.new.self.lines.items c.requires.items.lines whole _ _ all.items)
