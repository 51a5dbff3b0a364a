-- What is counted for a text that is assembled at once.
use Rattle.std.proofs.Common.{◌≡◌, ℕ, suc, ◌+◌, ◌*◌, ◌≤◌, ◌&&◌, ◌==◌, nat_le, not, Bool, true, false, List, [], ◌∷◌, length, arith}
use Rattle.std.specs.List.{AllPass, list_any, sum_by}
use Rattle.std.proofs.lemmas.Bool.{leb-true}
use Rattle.std.proofs.lemmas.List.Sums.{sum_by-cons}
use Rattle.rv_stmt.specs.Statement.{statement_of, operands_of}
use Rattle.rv_program.specs.CountedTexts.{most_values_in}
use Rattle.rv_program.specs.Program.{program_of}
use Rattle.rv_program.specs.Text.{is_line}
use Rattle.rv_program.specs.internal.Work.{survey_operands, value_operands, operands_through}
use Rattle.rv_program.specs.lemmas.Programs.{length-program}
use Rattle.rv_program.specs.lemmas.WholeWork.{operands-within}

few_bytes : (line : List ℕ) → is_line line ≡ true → length line ≤ 1000
few_bytes line right = at (not (list_any (λ b. b == 10) line)) right
  where
    at : (b : Bool) → (b && nat_le (length line) 1000) ≡ true → length line ≤ 1000
    at true e = leb-true (length line) 1000 e
    at false e = absurd (let no : false ≡ true = e in cc)

-- a line has few operands
module _ (few : (line : List ℕ) → length (operands_of (statement_of line).body) ≤ length line) where
  sum-few : (lines : List (List ℕ)) → AllPass is_line lines → sum_by (λ s. length (operands_of s.body)) (program_of lines) ≤ 1000 * length lines
  sum-few [] lined = omega arith
  sum-few (l ∷ ls) lined =
      let rest = sum-few ls (λ k d within. lined (suc k) d (omega (arith, within))) in
      let first = few l in
      let bytes = few_bytes l (lined 0 l (omega arith)) in
      let sum = sum_by-cons (λ s. length (operands_of s.body)) (statement_of l) (program_of ls) in
      omega (arith, rest, first, bytes, sum)

  pub most-few : (lines : List (List ℕ)) → AllPass is_line lines → length lines ≤ 16384 → most_values_in (program_of lines) ≤ 32768000
  most-few lines lined short = let sum = sum-few lines lined in omega (arith, sum, short)

-- all that is computed
pub work-whole : (lines : List (List ℕ)) → operands_through survey_operands (program_of lines) (length lines) + operands_through value_operands (program_of lines) (length lines) ≤ most_values_in (program_of lines)
work-whole lines = operands-within (program_of lines) (length lines) (let e = length-program lines in omega (arith, e))
