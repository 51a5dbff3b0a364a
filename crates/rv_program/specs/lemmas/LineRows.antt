-- Rows of the lines that pass a test.
use Rattle.std.proofs.Common.{◌≡◌, ℕ, zero, suc, ◌+◌, ◌<◌, ◌≤◌, Bool, true, false, List, [], ◌∷◌, ◌++◌, if◌then◌else◌, append-nil, arith, ap, sym, subst, ◌∙◌, refl}
use Rattle.rv_program.specs.Program.{lines_that}
use Rattle.rv_program.specs.lemmas.Programs.{kept-up}

module _ (test : ℕ → Bool) (n : ℕ) (row : List ℕ) (so_far : row ≡ lines_that test n) where
  next-line : lines_that test (n + 1) ≡ lines_that test n ++ (if test (n + 1) then (n + 1) ∷ [] else [])
  next-line =
      subst (λ m. lines_that test m ≡ lines_that test n ++ (if test m then m ∷ [] else [])) (let e : suc n ≡ n + 1 = omega arith in e) refl

  -- the next line passes
  pub row-added : test (n + 1) ≡ true → row ++ (n + 1) ∷ [] ≡ lines_that test (n + 1)
  row-added passes =
      ap (λ r. r ++ (n + 1) ∷ []) so_far ∙ sym (next-line ∙ ap (λ b. lines_that test n ++ (if b then (n + 1) ∷ [] else [])) passes)

  -- it does not
  pub row-kept : test (n + 1) ≡ false → row ≡ lines_that test (n + 1)
  row-kept fails =
      so_far ∙ sym (next-line ∙ ap (λ b. lines_that test n ++ (if b then (n + 1) ∷ [] else [])) fails ∙ append-nil (lines_that test n))

-- none of the next lines passes
pub row-through : (test : ℕ → Bool) (n m : ℕ) → n ≤ m → ((i : ℕ) → n < i → i ≤ m → test i ≡ false) → lines_that test n ≡ lines_that test m
row-through test n m up none = kept-up (λ k. lines_that test n ≡ lines_that test k) n m up
    (λ k first last before.
    let fails = none (suc k) (omega (arith, first)) (omega (arith, last)) in
    before ∙ sym (ap (λ b. lines_that test k ++ (if b then suc k ∷ [] else [])) fails ∙ append-nil (lines_that test k))) refl

-- the lines that pass the same test
pub lines_that-same : (test test' : ℕ → Bool) (n : ℕ) → ((k : ℕ) → k < n → test' (suc k) ≡ test (suc k)) → lines_that test' n ≡ lines_that test n
lines_that-same test test' zero same = refl
lines_that-same test test' (suc n) same =
    let earlier = lines_that-same test test' n (λ k within. same k (omega (arith, within))) in
    let here = same n (omega arith) in
    λ j. earlier j ++ (if here j then suc n ∷ [] else [])
