-- What is computed for the shapes and the constants of a text after an edit, line by line.
use Rattle.std.proofs.Common.{◌≡◌, ℕ, suc, ◌+◌, ◌≤◌, List, length, None, arith, ap, ◌∙◌, sym, refl}
use Rattle.rv_stmt.specs.declared.statement.Body.{Body}
use Rattle.rv_layout.specs.Shapes.{size_operands}
use Rattle.rv_program.specs.Changes.{program_after, is_invalidated, most_values}
use Rattle.rv_program.specs.internal.NewShapes.{shape_operands}
use Rattle.rv_program.specs.Program.{Program, body_at, lines_that}
use Rattle.rv_program.specs.Text.{Edit, refusal_of, lines_after}
use Rattle.rv_program.specs.internal.Work.{equ_operands, constant_operands, survey_operands, operands_through, work}
use Rattle.rv_program.specs.lemmas.NewShapeLaws.{shape-work}
use Rattle.rv_program.specs.lemmas.Programs.{rises_to}
use Rattle.rv_program.specs.lemmas.SurveyWork.{sum_of_two, survey-work, equ-work}
use Rattle.rv_program.specs.lemmas.WorkSums.{work-within}

-- the operands of one line more
pub operands-next : (operands : Body → ℕ) (program : Program) (n : ℕ) → operands_through operands program (n + 1) ≡ operands_through operands program n + operands (body_at program (n + 1))
operands-next operands program n =
    let next : n + 1 ≡ suc n = omega arith in
    ap (operands_through operands program) next ∙ ap (λ k. operands_through operands program n + operands (body_at program k)) (sym next)

pub operands-more : (operands : Body → ℕ) (program : Program) (m n : ℕ) → m ≤ n → operands_through operands program m ≤ operands_through operands program n
operands-more operands program = rises_to (operands_through operands program) (λ n. omega arith)

-- the constants of all `.equ`s are computed, since each edit invalidates them
pub constant-work : (base : ℕ) (lines : List (List ℕ)) (edit : Edit) (n : ℕ) → work constant_operands base lines edit n ≡ work size_operands base lines edit n + operands_through equ_operands (program_after lines edit) n
constant-work base lines edit n =
    let body : ℕ → Body = body_at (program_after lines edit) in
    sum_of_two (λ k. size_operands (body k)) (λ k. equ_operands (body k)) (lines_that (is_invalidated base lines edit) n)
    ∙ ap (λ x. work size_operands base lines edit n + x) (sym (equ-work base lines edit n))

-- where nothing is computed yet, the shape of the new line may be
pub nothing-shaped : (base : ℕ) (lines : List (List ℕ)) (edit : Edit) → refusal_of lines edit ≡ None → (n : ℕ) → n ≡ length (lines_after lines edit) → shape_operands edit ≤ work constant_operands base lines edit n
nothing-shaped base lines edit allowed n all = omega (arith, shape-work base lines edit allowed n all, constant-work base lines edit n)

pub nothing-surveyed : (base : ℕ) (lines : List (List ℕ)) (edit : Edit) → refusal_of lines edit ≡ None → (n : ℕ) → n ≡ length (lines_after lines edit) → shape_operands edit ≤ work survey_operands base lines edit n
nothing-surveyed base lines edit allowed n all = omega (arith, nothing-shaped base lines edit allowed n all, survey-work base lines edit n)

pub nothing-counted : (base : ℕ) (lines : List (List ℕ)) (edit : Edit) → refusal_of lines edit ≡ None → shape_operands edit ≤ most_values base lines edit
nothing-counted base lines edit allowed =
    let surveyed = nothing-surveyed base lines edit allowed (length (lines_after lines edit)) refl in
    let all = work-within base base lines lines (lines_after lines edit) edit refl refl refl in
    omega (arith, surveyed, all)
