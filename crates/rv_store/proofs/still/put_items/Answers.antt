use Rattle.std.proofs.Common.{◌≡◌, length, arith, ap, sym, subst}
use Rattle.rv_program.specs.Counted.{counts_of}
use Rattle.rv_program.specs.Program.{program_of}
use Rattle.rv_program.specs.internal.Lines.{lines_of}
use Rattle.rv_program.specs.lemmas.CountedLines.{nothing_counted}
use Rattle.rv_program.specs.Edits.{edit_of}
use Rattle.rv_layout.specs.Sections.{section_number}
use Rattle.rv_program.specs.Pairs.{high_at}
use Rattle.rv_program.specs.internal.Rows.{ArePlaces}
use Rattle.rv_store.specs.internal.HighRows.{GetHigh}
use Rattle.rv_store.specs.internal.Renewed.{ArePut, edited_by}
use Rattle.rv_store.specs.internal.Surveys.{IsSurvey}
use Rattle.rv_store.proofs.PutHighs.{survey-with, some, highs-within, high-row, row-nothing}
use Rattle.rv_store.proofs.still.put_items.Goals as goal

pub put_high-requires-clause-some : goal.put_high-requires-clause-some
put_high-requires-clause-some g c = some c.requires.put.0 c.args.still.now c.requires.put.1

pub put_high-requires-clause-within : goal.put_high-requires-clause-within
put_high-requires-clause-within g c = highs-within c.requires.put.0 c.args.still.now c.requires.put.1 c.args.survey.now.highs.items c.requires.highs

pub items_put-requires-clause-survey : goal.items_put-requires-clause-survey
items_put-requires-clause-survey g c =
    let old = c.args.survey.now in
    let new = c.put_high.new.self in
    let row = high-row c.requires.put.0 c.args.still.now c.requires.put.1 old.places.items old.highs.items new.highs.items c.requires.rows.places c.in_ok-put_high.ensures.ok c.requires.highs in
    subst (λ ls. IsSurvey c.args.base (program_of ls) c.args.names.now new) (sym (ap (λ v. v.items) c.put_high.ensures.others.lines))
    (survey-with c.args.base (program_of old.lines.items) c.args.names.now old new c.requires.rows c.put_high.ensures.others row)

pub items_put-requires-clause-put : goal.items_put-requires-clause-put
items_put-requires-clause-put g c =
    subst (λ ls. ArePut c.args.base ls c.args.items.now.items (edit_of c.args.edit.now) c.args.due.now) (sym (ap (λ v. v.items) c.put_high.ensures.others.lines)) c.requires.put.0

pub returns-in-Ok-clause-survey : goal.returns-in-Ok-clause-survey
returns-in-Ok-clause-survey g c =
    let old = c.args.survey.now in
    let new = c.put_high.new.self in
    let row = high-row c.requires.put.0 c.args.still.now c.requires.put.1 old.places.items old.highs.items new.highs.items c.requires.rows.places c.in_ok-put_high.ensures.ok c.requires.highs in
    subst (λ ls. IsSurvey c.args.base (program_of ls) c.args.names.now new) (sym (ap (λ v. v.items) c.put_high.ensures.others.lines))
    (survey-with c.args.base (program_of old.lines.items) c.args.names.now old new c.requires.rows c.put_high.ensures.others row)

pub returns-in-Err-clause-highs : goal.returns-in-Err-clause-highs
returns-in-Err-clause-highs g c =
    let old = c.args.survey.now in
    let new = c.put_high.new.self in
    let t = section_number c.args.still.now.place.section in
    let high = high_at c.args.base (program_of old.lines.items) (length old.lines.items) in
    let same : new.places.items ≡ old.places.items = ap (λ v. v.items) c.put_high.ensures.others.places in
    c.take_high.ensures.highs high old.highs.items
    (subst (λ places. GetHigh c.args.still.now.waiting places t high old.highs.items new.highs.items) (sym same) c.in_ok-put_high.ensures.ok)
    (omega (arith, c.len-former.ensures, old.highs.ok.0))
    (row-nothing c.requires.put.0 c.args.still.now c.requires.put.1 new.places.items old.highs.items (subst (ArePlaces c.args.base (program_of old.lines.items)) (sym same) c.requires.rows.places) c.requires.highs)

pub returns-in_err-put_high-clause-counted : goal.returns-in_err-put_high-clause-counted
returns-in_err-put_high-clause-counted g c =
    let counts = counts_of g.C.Count.parsed_count g.C.Count.valued_count g.C.Count.encoded_count c.put_high.new.counter in
    let r = edited_by c.args.base (lines_of c.args.items.now.items) c.args.edit.now in
    record {
      between = counts;
      parsed = c.put_high.ensures.parsed;
      least = c.put_high.ensures.least;
      most = c.put_high.ensures.most;
      encoded = c.put_high.ensures.encoded;
      items = nothing_counted r 0 (length c.args.survey.now.lines.items) counts (omega arith);
    }
