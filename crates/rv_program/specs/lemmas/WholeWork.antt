-- What is computed for a whole text is no more than it may take.
use Rattle.std.proofs.Common.{◌≡◌, ℕ, zero, suc, ◌+◌, ◌*◌, ◌-◌, ◌≤◌, length, take, get_or, arith, ap, sym, ◌∙◌, refl}
use Rattle.std.specs.List.{sum_by}
use Rattle.std.proofs.Math.Seq.{take-suc}
use Rattle.std.proofs.lemmas.List.{take_all}
use Rattle.std.proofs.lemmas.List.Sums.{sum_by_push}
use Rattle.rv_stmt.specs.Statement.{operands_of}
use Rattle.rv_program.specs.CountedTexts.{most_values_in}
use Rattle.rv_program.specs.Program.{Program, no_statement, body_at}
use Rattle.rv_program.specs.internal.Work.{equ_operands, constant_operands, high_operands, survey_operands, value_operands, operands_through}
use Rattle.rv_program.specs.lemmas.WorkSums.{twice}

-- for the survey, together
pub survey-operands : (program : Program) (n : ℕ) → operands_through constant_operands program n + operands_through high_operands program n + operands_through equ_operands program n ≡ operands_through survey_operands program n
survey-operands program zero = refl
survey-operands program (suc n) = let rest = survey-operands program n in omega (arith, rest)

-- the operands of the first n lines
operands-sum : (program : Program) (n : ℕ) → n ≤ length program → operands_through (λ b. length (operands_of b)) program n ≡ sum_by (λ s. length (operands_of s.body)) (take n program)
operands-sum program zero within = refl
operands-sum program (suc n) within =
    let back : suc n - 1 ≡ n = omega arith in
    ap (λ x. x + length (operands_of (body_at program (suc n)))) (operands-sum program n (omega (arith, within)))
    ∙ ap (λ k. sum_by (λ s. length (operands_of s.body)) (take n program) + length (operands_of (get_or program k no_statement).body)) back
    ∙ sym (sum_by_push (λ s. length (operands_of s.body)) (take n program) (get_or program n no_statement))
    ∙ ap (sum_by (λ s. length (operands_of s.body))) (sym (take-suc program n no_statement (omega (arith, within))))

operands-twice : (program : Program) (n : ℕ) → operands_through survey_operands program n + operands_through value_operands program n ≤ 2 * operands_through (λ b. length (operands_of b)) program n
operands-twice program zero = omega arith
operands-twice program (suc n) =
    let rest = operands-twice program n in
    let here = twice (body_at program (suc n)) in
    omega (arith, rest, here)

pub operands-within : (program : Program) (n : ℕ) → n ≡ length program → operands_through survey_operands program n + operands_through value_operands program n ≤ most_values_in program
operands-within program n all =
    let most = operands-twice program n in
    let sum = operands-sum program n (omega (arith, all)) in
    let whole = ap (sum_by (λ s. length (operands_of s.body))) (take_all n program (omega (arith, all))) in
    omega (arith, most, sum, whole)
