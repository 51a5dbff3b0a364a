-- What one line more adds to the work on the lines that an edit invalidates.
use Rattle.std.proofs.Common.{◌≡◌, ℕ, zero, suc, ◌+◌, ◌-◌, ◌≤◌, Bool, true, false, List, [], ◌∷◌, if◌then◌else◌, arith, ap, ◌∙◌, refl}
use Rattle.std.specs.List.{sum_by}
use Rattle.std.proofs.lemmas.List.Sums.{sum_by-append}
use Rattle.rv_stmt.specs.declared.statement.Body.{Body}
use Rattle.rv_program.specs.Changes.{program_after, is_invalidated}
use Rattle.rv_program.specs.Program.{body_at, lines_that}
use Rattle.rv_program.specs.Text.{Edit}
use Rattle.rv_program.specs.internal.Work.{work}
use Rattle.rv_program.specs.lemmas.Programs.{rises_to}

module _ (operands : Body → ℕ) (base : ℕ) (lines : List (List ℕ)) (edit : Edit) where
  -- the share of a line: its operands, if the edit invalidates it
  abbrev pub share : (k : ℕ) → ℕ
  share k = if is_invalidated base lines edit k then operands (body_at (program_after lines edit) k) else 0

  pub work-next : (n : ℕ) → work operands base lines edit (suc n) ≡ work operands base lines edit n + share (suc n)
  work-next n =
      sum_by-append (λ k. operands (body_at (program_after lines edit) k)) (lines_that (is_invalidated base lines edit) n) (if is_invalidated base lines edit (suc n) then suc n ∷ [] else [])
      ∙ ap (λ x. work operands base lines edit n + x) (at (is_invalidated base lines edit (suc n)))
    where
      at : (b : Bool) → sum_by (λ k. operands (body_at (program_after lines edit) k)) (if b then suc n ∷ [] else []) ≡ (if b then operands (body_at (program_after lines edit) (suc n)) else 0)
      at true = omega arith
      at false = refl

  -- by the number of the line
  pub work-line : (k : ℕ) → 1 ≤ k → work operands base lines edit k ≡ work operands base lines edit (k - 1) + share k
  work-line zero first = absurd (let no : 1 ≤ 0 = first in omega (arith, no))
  work-line (suc n) first =
      work-next n ∙ ap (λ m. work operands base lines edit m + share (suc n)) (let e : n ≡ suc n - 1 = omega arith in e)

  pub work-invalidated : (k : ℕ) → 1 ≤ k → is_invalidated base lines edit k ≡ true → work operands base lines edit k ≡ work operands base lines edit (k - 1) + operands (body_at (program_after lines edit) k)
  work-invalidated k first h =
      work-line k first
      ∙ ap (λ b. work operands base lines edit (k - 1) + (if b then operands (body_at (program_after lines edit) k) else 0)) h

  -- never less
  pub work-more : (k : ℕ) → 1 ≤ k → work operands base lines edit (k - 1) ≤ work operands base lines edit k
  work-more k first = omega (arith, work-line k first)

  pub work-up : (m n : ℕ) → m ≤ n → work operands base lines edit m ≤ work operands base lines edit n
  work-up = rises_to (work operands base lines edit) (λ n. omega (arith, work-next n))
