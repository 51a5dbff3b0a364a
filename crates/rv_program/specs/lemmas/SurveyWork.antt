-- What is computed for a survey, together.
use Rattle.std.proofs.Common.{◌≡◌, ℕ, zero, suc, ◌+◌, ◌≤◌, Bool, true, false, List, [], ◌∷◌, ◌++◌, length, if◌then◌else◌, true≢false, arith, ap, sym, ◌∙◌, refl}
use Rattle.std.specs.List.{sum_by}
use Rattle.std.proofs.lemmas.List.{append-nil}
use Rattle.std.proofs.lemmas.List.Sums.{sum_by-cons, sum_by_push}
use Rattle.rv_stmt.specs.declared.statement.Body.{Body}
use Rattle.rv_stmt.specs.declared.statement.Body.TheVariants.{Equ}
use Rattle.rv_program.specs.declared.before.Before.{Before}
use Rattle.rv_program.specs.internal.Before.{base_before, lines_before, edit_on}
use Rattle.rv_program.specs.Changes.{program_after, differs_in_uses, is_invalidated}
use Rattle.rv_program.specs.Edits.{line_before_edit}
use Rattle.rv_program.specs.internal.NewShapes.{shape_operands}
use Rattle.rv_program.specs.Program.{program_of, body_at, lines_that}
use Rattle.rv_program.specs.Text.{Edit, lines_after}
use Rattle.rv_program.specs.Uses.{is_equ}
use Rattle.rv_program.specs.internal.Work.{equ_operands, constant_operands, high_operands, survey_operands, operands_through, work}
use Rattle.rv_program.specs.lemmas.KeptLines.{not_new, uses-same}

-- sums of two numbers each
pub sum_of_two : (f g : ℕ → ℕ) (ks : List ℕ) → sum_by (λ k. f k + g k) ks ≡ sum_by f ks + sum_by g ks
sum_of_two f g [] = refl
sum_of_two f g (k ∷ ks) =
    let rest = sum_of_two f g ks in
    let first = sum_by-cons f k ks in
    let second = sum_by-cons g k ks in
    let both = sum_by-cons (λ k. f k + g k) k ks in
    omega (arith, rest, first, second, both)

pub survey-work : (base : ℕ) (lines : List (List ℕ)) (edit : Edit) (n : ℕ) → work constant_operands base lines edit n + work high_operands base lines edit n + work equ_operands base lines edit n ≡ work survey_operands base lines edit n
survey-work base lines edit n =
    let body : ℕ → Body = body_at (program_after lines edit) in
    let those : List ℕ = lines_that (is_invalidated base lines edit) n in
    sym (sum_of_two (λ k. constant_operands (body k) + high_operands (body k)) (λ k. equ_operands (body k)) those
    ∙ ap (λ x. x + work equ_operands base lines edit n) (sum_of_two (λ k. constant_operands (body k)) (λ k. high_operands (body k)) those))

no_equ : (b : Body) → is_equ b ≡ false → equ_operands b ≡ 0
no_equ (Equ d) h = absurd (true≢false h)
no_equ b h = refl

-- an `.equ` is invalidated by each edit
unless_invalidated : (base : ℕ) (lines : List (List ℕ)) (edit : Edit) (k : ℕ) → is_invalidated base lines edit k ≡ false → equ_operands (body_at (program_after lines edit) k) ≡ 0
unless_invalidated base lines edit k h =
    let b : Body = body_at (program_after lines edit) k in
    let (j, is, same) = not_new (λ j. differs_in_uses base (program_of lines) (program_after lines edit) k j b) (line_before_edit edit k) h in
    no_equ b (uses-same base (program_of lines) (program_after lines edit) k j b same).equ

pub equ-work : (base : ℕ) (lines : List (List ℕ)) (edit : Edit) (n : ℕ) → operands_through equ_operands (program_after lines edit) n ≡ work equ_operands base lines edit n
equ-work base lines edit zero = refl
equ-work base lines edit (suc n) = at (is_invalidated base lines edit (suc n)) refl (equ-work base lines edit n)
  where
    f : ℕ → ℕ
    f k = equ_operands (body_at (program_after lines edit) k)

    before : List ℕ
    before = lines_that (is_invalidated base lines edit) n

    at : (test : Bool) → is_invalidated base lines edit (suc n) ≡ test → operands_through equ_operands (program_after lines edit) n ≡ sum_by f before → operands_through equ_operands (program_after lines edit) n + f (suc n) ≡ sum_by f (before ++ (if is_invalidated base lines edit (suc n) then suc n ∷ [] else []))
    at true is all =
        ap (λ x. x + f (suc n)) all ∙ sym (sum_by_push f before (suc n))
        ∙ ap (λ t. sum_by f (before ++ (if t then suc n ∷ [] else []))) (sym is)
    at false is all =
        let none = unless_invalidated base lines edit (suc n) is in
        let kept : sum_by f before ≡ sum_by f (before ++ []) = ap (sum_by f) (sym (append-nil before)) in
        let sums : operands_through equ_operands (program_after lines edit) n + f (suc n) ≡ sum_by f before = omega (arith, none, all) in
        sums ∙ kept ∙ ap (λ t. sum_by f (before ++ (if t then suc n ∷ [] else []))) (sym is)

-- what the shapes but for that of the new line, the values of the `.equ`s and the high halves of a text after an edit take
pub survey_counted : (before : Before) (base : ℕ) (lines after : List (List ℕ)) (edit : Edit) → base_before before ≡ base → lines_before before ≡ lines → edit_on before ≡ edit → after ≡ lines_after lines edit → (first shaped valued last : ℕ) → shaped + shape_operands (edit_on before) ≤ first + work constant_operands (base_before before) (lines_before before) (edit_on before) (length after) → valued ≤ shaped + operands_through equ_operands (program_of after) (length after) → last ≤ valued + work high_operands (base_before before) (lines_before before) (edit_on before) (length after) → last + shape_operands edit ≤ first + work survey_operands base lines edit (length after)
survey_counted before base lines after edit same_base same_lines same_edit edited first shaped valued last s v h =
    let shapes : shaped + shape_operands edit ≤ first + work constant_operands base lines edit (length after) = rw (same_base, same_lines, same_edit) at s in
    let highs : last ≤ valued + work high_operands base lines edit (length after) = rw (same_base, same_lines, same_edit) at h in
    let equs : operands_through equ_operands (program_of after) (length after) ≡ work equ_operands base lines edit (length after) =
    ap (λ text. operands_through equ_operands (program_of text) (length after)) edited ∙ equ-work base lines edit (length after) in
    let all = survey-work base lines edit (length after) in
    omega (arith, shapes, v, highs, equs, all)
