-- What is counted while an edit is made, by its parts.
use Rattle.std.proofs.Common.{◌≡◌, ℕ, ◌+◌, ◌*◌, ◌≤◌, List, length, arith, ap, subst, ◌∙◌, refl}
use Rattle.rv_text.specs.Counting.{Counts}
use Rattle.rv_store.specs.internal.Assembled.{AreCountedAfter}
use Rattle.rv_program.specs.Changes.{is_reencoded, most_codes}
use Rattle.rv_program.specs.Program.{lines_that}
use Rattle.rv_program.specs.internal.NewShapes.{shape_operands}
use Rattle.rv_program.specs.Text.{Edit, lines_after}
use Rattle.rv_program.specs.internal.Renewals.{AreCountedRenewed}
use Rattle.rv_program.specs.internal.Work.{survey_operands, compared_operands, value_operands, work}
use Rattle.rv_program.specs.lemmas.WorkSums.{work-within}

-- first what is kept of the text is made, then the codes of its lines
pub counted-after : (base : ℕ) (lines after : List (List ℕ)) (edit : Edit) (old new : Counts) (surveyed : ℕ) → after ≡ lines_after lines edit → new.parsed ≡ old.parsed → old.valued ≤ surveyed → surveyed ≤ old.valued + 4 * length after → surveyed + shape_operands edit ≤ old.valued + work survey_operands base lines edit (length after) → surveyed ≤ new.valued → new.valued ≤ surveyed + 1000 * length after → new.valued ≤ surveyed + work compared_operands base lines edit (length after) + work value_operands base lines edit (length after) → old.encoded ≤ new.encoded → new.encoded ≤ old.encoded + length after → new.encoded ≤ old.encoded + most_codes base lines edit → AreCountedAfter base lines edit old new
counted-after base lines after edit old new surveyed is parsed least few work_few more more_few values encoded encoded_few codes =
    let count : length after ≡ length (lines_after lines edit) = ap length is in
    let most = work-within base base lines lines after edit refl refl is in
    record {
      parsed = parsed;
      valued_least = omega (arith, least, more);
      valued_few = omega (arith, few, more_few, count);
      valued_most = omega (arith, work_few, values, most);
      encoded_least = encoded;
      encoded_few = omega (arith, encoded_few, count);
      encoded_most = codes;
    }

-- the same by what the codes take together
pub counted-renewed : (base : ℕ) (lines after : List (List ℕ)) (edit : Edit) (old surveyed new : Counts) → after ≡ lines_after lines edit → surveyed.parsed ≡ old.parsed → old.valued ≤ surveyed.valued → surveyed.valued ≤ old.valued + 4 * length after → surveyed.valued + shape_operands edit ≤ old.valued + work survey_operands base lines edit (length after) → surveyed.encoded ≡ old.encoded
    → AreCountedRenewed (record { base = base; lines = lines; edit = edit }) (length after) surveyed new → AreCountedAfter base lines edit old new
counted-renewed base lines after edit old surveyed new is parsed least few work_few encoded all =
    let codes = subst (λ ls. new.encoded ≤ surveyed.encoded + length (lines_that (is_reencoded base lines edit) (length ls))) is all.encoded_most in
    counted-after base lines after edit old new surveyed.valued is (all.parsed ∙ parsed) least few work_few all.valued_least all.valued_few all.valued_most
    (let fewest = all.encoded_least in omega (arith, fewest, encoded)) (let most = all.encoded_few in omega (arith, most, encoded)) (omega (arith, codes, encoded))
