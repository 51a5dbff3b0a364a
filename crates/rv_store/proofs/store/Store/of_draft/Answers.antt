use Rattle.std.proofs.Common.{◌≡◌, ℕ, ◌+◌, ◌^◌, ◌<◌, ◌≤◌, List, length, arith, ap, subst, ◌∙◌}
use Rattle.rv_text.specs.Counting.{Counts}
use Rattle.rv_program.specs.Counted.{counts_of}
use Rattle.rv_program.specs.CountedTexts.{IsCountedWhole, most_values_in}
use Rattle.rv_program.specs.Program.{program_of}
use Rattle.rv_program.specs.Text.{Text}
use Rattle.rv_program.specs.internal.Work.{survey_operands, value_operands, operands_through}
use Rattle.rv_store.proofs.Drafts.{most-few, work-whole}
use Rattle.rv_store.proofs.store.Store.of_draft.Given.{Over}
use Rattle.rv_store.proofs.store.Store.of_draft.Goals.{After-of_lines, After-items_of}
use Rattle.rv_store.proofs.store.Store.of_draft.Goals as goal

-- what is counted for the survey, and for the items too

surveyed : (lines : List (List ℕ)) (old new : Counts) → new.parsed ≡ old.parsed → old.valued ≤ new.valued → new.valued ≤ old.valued + operands_through survey_operands (program_of lines) (length lines) → new.encoded ≡ old.encoded → IsCountedWhole lines old new
surveyed lines old new parsed least operands encoded =
    let all = work-whole lines in
    record {
      parsed = parsed;
      valued_least = least;
      valued_most = omega (arith, operands, all);
      encoded_least = omega (arith, encoded);
      encoded_most = omega (arith, encoded);
    }

made : (lines read : List (List ℕ)) → read ≡ lines → (old mid new : Counts) → mid.parsed ≡ old.parsed → old.valued ≤ mid.valued → mid.valued ≤ old.valued + operands_through survey_operands (program_of lines) (length lines) → mid.encoded ≡ old.encoded
    → new.parsed ≡ mid.parsed → mid.valued ≤ new.valued → new.valued ≤ mid.valued + operands_through value_operands (program_of read) (length read) → mid.encoded ≤ new.encoded → new.encoded ≤ mid.encoded + length read → IsCountedWhole lines old new
made lines read is old mid new parsed least operands encoded parsed' least' operands' encoded_least encoded_most =
    let all = work-whole lines in
    let same = ap (λ ls. operands_through value_operands (program_of ls) (length ls)) is in
    let count = ap length is in
    record {
      parsed = parsed' ∙ parsed;
      valued_least = omega (arith, least, least');
      valued_most = omega (arith, operands, operands', all, same);
      encoded_least = omega (arith, encoded, encoded_least);
      encoded_most = omega (arith, encoded, encoded_most, count);
    }

few : (lines : List (List ℕ)) (old new : Counts) → most_values_in (program_of lines) ≤ 32768000 → IsCountedWhole lines old new → new.valued < old.valued + 2 ^ 32
few lines old new most counted = let all = counted.valued_most in omega (arith, most, all)

after-survey : (g : Over) (c : After-of_lines g) → IsCountedWhole c.draft.inside.lines.items (counts_of g.C.Count.parsed_count g.C.Count.valued_count g.C.Count.encoded_count c.args.counter.now) (counts_of g.C.Count.parsed_count g.C.Count.valued_count g.C.Count.encoded_count c.of_lines.new.counter)
after-survey g c =
    let counts = counts_of g.C.Count.parsed_count g.C.Count.valued_count g.C.Count.encoded_count in
    surveyed c.draft.inside.lines.items (counts c.args.counter.now) (counts c.of_lines.new.counter) c.of_lines.ensures.parsed c.of_lines.ensures.least c.of_lines.ensures.operands c.of_lines.ensures.encoded

after-items : (g : Over) (c : After-items_of g) → IsCountedWhole c.draft.inside.lines.items (counts_of g.C.Count.parsed_count g.C.Count.valued_count g.C.Count.encoded_count c.args.counter.now) (counts_of g.C.Count.parsed_count g.C.Count.valued_count g.C.Count.encoded_count c.items_of.new.counter)
after-items g c =
    let counts = counts_of g.C.Count.parsed_count g.C.Count.valued_count g.C.Count.encoded_count in
    let is = c.rows-rows.ensures.lines ∙ c.in_column-column.ensures ∙ c.as_slice.ensures ∙ c.in_ok-survey.ensures.lines in
    made c.draft.inside.lines.items c.rows-rows.result.symbols.text.lines.now is (counts c.args.counter.now) (counts c.of_lines.new.counter) (counts c.items_of.new.counter)
    c.of_lines.ensures.parsed c.of_lines.ensures.least c.of_lines.ensures.operands c.of_lines.ensures.encoded
    c.items_of.ensures.parsed c.items_of.ensures.least c.items_of.ensures.operands c.items_of.ensures.encoded_least c.items_of.ensures.encoded_most

pub returns-in_err-survey-clause-counted : goal.returns-in_err-survey-clause-counted
returns-in_err-survey-clause-counted g c =
    let counts = counts_of g.C.Count.parsed_count g.C.Count.valued_count g.C.Count.encoded_count in
    subst (λ (t : Text). IsCountedWhole t.lines (counts c.args.counter.now) (counts c.of_lines.new.counter)) c.draft.view_is (after-survey g (goal.at.returns-in_err-survey-clause-counted g c).After-of_lines)

pub returns-in_err-items-clause-counted : goal.returns-in_err-items-clause-counted
returns-in_err-items-clause-counted g c =
    let counts = counts_of g.C.Count.parsed_count g.C.Count.valued_count g.C.Count.encoded_count in
    subst (λ (t : Text). IsCountedWhole t.lines (counts c.args.counter.now) (counts c.items_of.new.counter)) c.draft.view_is (after-items g (goal.at.returns-in_err-items-clause-counted g c).After-items_of)

pub returns-clause-counted : goal.returns-clause-counted
returns-clause-counted g c =
    let counts = counts_of g.C.Count.parsed_count g.C.Count.valued_count g.C.Count.encoded_count in
    subst (λ (t : Text). IsCountedWhole t.lines (counts c.args.counter.now) (counts c.items_of.new.counter)) c.draft.view_is (after-items g (goal.at.returns-clause-counted g c).After-items_of)

-- How much that is at most

pub items_of-requires-clause-valued : goal.items_of-requires-clause-valued
items_of-requires-clause-valued g c =
    let lines = c.draft.inside.lines.items in
    let most = most-few c.operands_are_few.ensures lines c.draft.invariant.lined c.draft.invariant.few in
    let all = work-whole lines in
    omega (arith, c.of_lines.ensures.operands, most, all, c.requires.valued)

pub returns-in_err-survey-clause-valued : goal.returns-in_err-survey-clause-valued
returns-in_err-survey-clause-valued g c =
    let counts = counts_of g.C.Count.parsed_count g.C.Count.valued_count g.C.Count.encoded_count in
    let lines = c.draft.inside.lines.items in
    few lines (counts c.args.counter.now) (counts c.of_lines.new.counter) (most-few c.operands_are_few.ensures lines c.draft.invariant.lined c.draft.invariant.few)
    (after-survey g (goal.at.returns-in_err-survey-clause-valued g c).After-of_lines)

pub returns-in_err-items-clause-valued : goal.returns-in_err-items-clause-valued
returns-in_err-items-clause-valued g c =
    let counts = counts_of g.C.Count.parsed_count g.C.Count.valued_count g.C.Count.encoded_count in
    let lines = c.draft.inside.lines.items in
    few lines (counts c.args.counter.now) (counts c.items_of.new.counter) (most-few c.operands_are_few.ensures lines c.draft.invariant.lined c.draft.invariant.few)
    (after-items g (goal.at.returns-in_err-items-clause-valued g c).After-items_of)

pub returns-clause-valued : goal.returns-clause-valued
returns-clause-valued g c =
    let counts = counts_of g.C.Count.parsed_count g.C.Count.valued_count g.C.Count.encoded_count in
    let lines = c.draft.inside.lines.items in
    few lines (counts c.args.counter.now) (counts c.items_of.new.counter) (most-few c.operands_are_few.ensures lines c.draft.invariant.lined c.draft.invariant.few)
    (after-items g (goal.at.returns-clause-valued g c).After-items_of)
