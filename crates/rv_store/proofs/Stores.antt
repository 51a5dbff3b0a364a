-- What a store answers, by what it holds.
use Rattle.std.proofs.Common.{◌≡◌, ℕ, zero, suc, ◌-◌, ◌<◌, ◌≤◌, ◌==◌, List, length, map, get_or, arith, ap, sym, ◌∙◌, refl, ◌⊎◌, inl, inr, Some, None, slice_get, if◌then◌else◌}
use Rattle.std.specs.Prelude.{false}
use Rattle.std.specs.Option.{option_map}
use Rattle.std.proofs.lemmas.Bool.{cases_lt, ne_eqb}
use Rattle.std.proofs.lemmas.Bool.Decides.{nat_tests}
use Rattle.std.proofs.lemmas.Grind.{common_steps}
use Rattle.std.proofs.lemmas.Option.{slice_get-get_or, slice_get_past, slice_get-map}
use Rattle.rv_store.specs.declared.survey.Survey.{Survey}
use Rattle.rv_program.specs.Program.{Program, for_lines}
use Rattle.rv_program.specs.internal.Rows.{Grows}
use Rattle.rv_store.specs.internal.Surveys.{IsSurvey}
use Rattle.rv_program.specs.Text.{at_line}
use Rattle.rv_store.proofs.LastDefinitions.{symbols-grown}
use Rattle.rv_program.specs.lemmas.Programs.{length-for_lines, at-for_lines}

pub past_zero : (j : ℕ) → (suc j == 0) ≡ false
past_zero j = ne_eqb (suc j) 0 (λ same. omega (arith, same))

-- what a row by lines holds for line k
row_at_line : {A : Type 0} (lines : List (List ℕ)) (f : ℕ → A) (row : List A) (k : ℕ) → row ≡ for_lines f (length lines) → (if k == 0 then None else slice_get row (k - 1)) ≡ at_line lines k (f k)
row_at_line lines f row zero made = refl
row_at_line lines f row (suc j) made = rw (past_zero j) (at (cases_lt j (length lines)))
  where
    place : suc j - 1 ≡ j
    place = omega arith

    count : length row ≡ length lines
    count = ap length made ∙ length-for_lines f (length lines)

    at : (j < length lines) ⊎ (length lines ≤ j) → slice_get row (suc j - 1) ≡ at_line lines (suc j) (f (suc j))
    at (inl m) =
        let read : slice_get row j ≡ Some (get_or row j (f (suc j))) = slice_get-get_or row j (f (suc j)) (rw count m) in
        let is : get_or row j (f (suc j)) ≡ f (suc j) = ap (λ r. get_or r j (f (suc j))) made ∙ at-for_lines f (length lines) j (f (suc j)) m in
        let there : slice_get row (suc j - 1) ≡ Some (f (suc j)) = ap (slice_get row) place ∙ read ∙ ap Some is in
        grind (arith, nat_tests, common_steps)
    at (inr m) =
        let past : slice_get row (suc j - 1) ≡ None = ap (slice_get row) place ∙ slice_get_past row j (rw count m) in
        grind (arith, nat_tests, common_steps)

-- more numbered names change nothing
pub survey_grown : (base : ℕ) (program : Program) (old new : List (List ℕ)) (s : Survey) → Grows old new → IsSurvey base program old s → IsSurvey base program new s
survey_grown base program old new s grows is =
    let symbols = symbols-grown base program (length program) old new s grows (record { definitions = is.definitions; constants = is.constants; equ_values = is.equ_values }) in
    record {
      definitions = symbols.definitions;
      constants = symbols.constants;
      shapes = is.shapes;
      limited = is.limited;
      ends = is.ends;
      places = is.places;
      locals = is.locals;
      equ_values = symbols.equ_values;
      highs = is.highs;
    }

-- what the parts of a row by lines hold for line k
pub part_at_line : {A B : Type 0} (lines : List (List ℕ)) (f : ℕ → B) (v : A → B) (items : List A) (k : ℕ) → map v items ≡ for_lines f (length lines) → option_map v (if k == 0 then None else slice_get items (k - 1)) ≡ at_line lines k (f k)
part_at_line lines f v items zero made = refl
part_at_line lines f v items (suc j) made =
    let there : (if suc j == 0 then None else slice_get (map v items) (suc j - 1)) ≡ at_line lines (suc j) (f (suc j)) = row_at_line lines f (map v items) (suc j) made in
    rw (past_zero j) (sym (slice_get-map v items (suc j - 1)) ∙ rw (past_zero j) at there)

-- what is asked of a line that there is, and of one that there isn't
