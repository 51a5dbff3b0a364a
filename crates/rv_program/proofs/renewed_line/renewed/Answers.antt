use Rattle.std.proofs.Common.{◌-◌, sym, ◌∙◌, arith}
use Rattle.rv_program.specs.Counted.{counts_of}
use Rattle.rv_program.specs.internal.Renewals.{AreCounted}
use Rattle.rv_program.specs.internal.ValueRows.{base_of}
use Rattle.rv_program.specs.lemmas.CountedLines.{valued_line, encoded_line}
use Rattle.rv_program.specs.internal.Revisions.{edited_text}
use Rattle.rv_program.proofs.StayingItems.{stays_in}
use Rattle.rv_program.proofs.renewed_line.renewed.Given.{Over}
use Rattle.rv_program.proofs.renewed_line.renewed.Goals.{After-values, After-code}
use Rattle.rv_program.proofs.renewed_line.renewed.Goals as goal

-- what is counted for the values of the line, and for its code

valued : (g : Over) (c : After-values g) → AreCounted (edited_text c.args.revision.now) (c.args.line - 1) c.args.line (counts_of g.C.Count.parsed_count g.C.Count.valued_count g.C.Count.encoded_count c.args.counter.now) (counts_of g.C.Count.parsed_count g.C.Count.valued_count g.C.Count.encoded_count c.values.new.counter)
valued g c =
    let count = counts_of g.C.Count.parsed_count g.C.Count.valued_count g.C.Count.encoded_count in
    valued_line (edited_text c.args.revision.now) c.args.rows.now.symbols.text.lines.now c.requires.revised.lines (c.args.line - 1) c.args.line (omega (arith, c.requires.first))
    c.operands_are_few_on.ensures c.requires.invalidated
    (count c.args.counter.now) (count c.values.new.counter) c.values.ensures.parsed c.values.ensures.least c.values.ensures.most c.values.ensures.encoded

encoded : (g : Over) (c : After-code g) → AreCounted (edited_text c.args.revision.now) (c.args.line - 1) c.args.line (counts_of g.C.Count.parsed_count g.C.Count.valued_count g.C.Count.encoded_count c.args.counter.now) (counts_of g.C.Count.parsed_count g.C.Count.valued_count g.C.Count.encoded_count c.code.new.counter)
encoded g c =
    let count = counts_of g.C.Count.parsed_count g.C.Count.valued_count g.C.Count.encoded_count in
    encoded_line (edited_text c.args.revision.now) c.args.rows.now.symbols.text.lines.now c.requires.revised.lines (c.args.line - 1) c.args.line (omega (arith, c.requires.first))
    c.operands_are_few_on.ensures c.requires.invalidated
    (count c.args.counter.now) (count c.values.new.counter) c.values.ensures.parsed c.values.ensures.least c.values.ensures.most c.values.ensures.encoded
    (sym c.is_reencoded.ensures ∙ c.if-not-is_reencoded.false)
    (count c.code.new.counter) c.code.ensures.parsed c.code.ensures.valued c.code.ensures.least c.code.ensures.most

pub returns-in_err-values-clause-counted : goal.returns-in_err-values-clause-counted
returns-in_err-values-clause-counted g c = valued g (goal.at.returns-in_err-values-clause-counted g c).After-values

pub returns-then-not-is_reencoded-clause-item : goal.returns-then-not-is_reencoded-clause-item
returns-then-not-is_reencoded-clause-item g c =
    let r = edited_text c.args.revision.now in
    let rows = c.args.rows.now in
    stays_in r.base r.lines r.edit c.args.line c.args.former.now c.requires.former (base_of rows) rows.symbols.text.lines.now
    c.requires.revised.base c.requires.revised.lines c.requires.revised.allowed c.requires.first c.requires.last
    (sym c.is_reencoded.ensures ∙ c.if-not-is_reencoded.true)

pub returns-then-not-is_reencoded-clause-counted : goal.returns-then-not-is_reencoded-clause-counted
returns-then-not-is_reencoded-clause-counted g c = valued g (goal.at.returns-then-not-is_reencoded-clause-counted g c).After-values

pub returns-in_err-code-clause-counted : goal.returns-in_err-code-clause-counted
returns-in_err-code-clause-counted g c = encoded g (goal.at.returns-in_err-code-clause-counted g c).After-code

pub returns-in_err-share-clause-counted : goal.returns-in_err-share-clause-counted
returns-in_err-share-clause-counted g c = encoded g (goal.at.returns-in_err-share-clause-counted g c).After-code

pub returns-clause-counted : goal.returns-clause-counted
returns-clause-counted g c = encoded g (goal.at.returns-clause-counted g c).After-code
