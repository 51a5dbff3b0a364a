-- Lines of texts, one by one.
use Rattle.std.proofs.Common.{◌≡◌, ℕ, zero, suc, ◌+◌, ◌-◌, ◌<◌, ◌≤◌, List, [], ◌∷◌, ◌++◌, length, get_or, arith, ap, sym, subst, ◌∙◌, refl, ◌⊎◌, inl, inr}
use Rattle.std.proofs.lemmas.Bool.{cases_lt}
use Rattle.std.proofs.Math.Seq.{get_or-append_seam}
use Rattle.std.proofs.lemmas.List.{length-append, length-map, get_or_append_left}
use Rattle.rv_stmt.specs.Statement.{statement_of}
use Rattle.rv_program.specs.Program.{program_of, for_lines}

pub length-for_lines : {A : Type 0} (f : ℕ → A) (n : ℕ) → length (for_lines f n) ≡ n
length-for_lines f zero = refl
length-for_lines f (suc n) = omega (arith, length-append (for_lines f n) (f (suc n) ∷ []), length-for_lines f n)

-- a row by lines holds for each line what the line answers
pub at-for_lines : {A : Type 0} (f : ℕ → A) (n i : ℕ) (other : A) → i < n → get_or (for_lines f n) i other ≡ f (suc i)
at-for_lines f zero i other l = absurd (let no : i < 0 = l in omega (arith, no))
at-for_lines f (suc n) i other l = at (cases_lt i n) (at-for_lines f n i other)
  where
    at : (i < n) ⊎ (n ≤ i) → (i < n → get_or (for_lines f n) i other ≡ f (suc i)) → get_or (for_lines f n ++ f (suc n) ∷ []) i other ≡ f (suc i)
    at (inl m) below = get_or_append_left (for_lines f n) (f (suc n) ∷ []) other i (rw (length-for_lines f n) m) ∙ below m
    at (inr m) below =
        let same : i ≡ n = omega (arith, l, m) in
        ap (λ k. get_or (for_lines f n ++ f (suc n) ∷ []) k other) (same ∙ sym (length-for_lines f n))
        ∙ get_or-append_seam (for_lines f n) (f (suc n)) [] other ∙ ap (λ k. f (suc k)) (sym same)

pub at-line : {A : Type 0} (f : ℕ → A) (n line : ℕ) (other : A) → 1 ≤ line → line ≤ n → get_or (for_lines f n) (line - 1) other ≡ f line
at-line f n line other first last =
    at-for_lines f n (line - 1) other (omega (arith, first, last)) ∙ ap f (let e : suc (line - 1) ≡ line = omega (arith, first) in e)

pub length-program : (lines : List (List ℕ)) → length (program_of lines) ≡ length lines
length-program lines = length-map lines statement_of

-- what each number behind another one keeps from that before it
pub kept-up : (P : ℕ → Type 0) (i j : ℕ) → i ≤ j → ((k : ℕ) → i ≤ k → k < j → P k → P (suc k)) → P i → P j
kept-up P i zero up step start = subst P (let e : i ≡ 0 = omega (arith, up) in e) start
kept-up P i (suc j) up step start = at (cases_lt j i) (λ above. kept-up P i j above (λ k first last. step k first (omega (arith, last))) start)
  where
    at : (j < i) ⊎ (i ≤ j) → (i ≤ j → P j) → P (suc j)
    at (inl below) before = subst P (let e : i ≡ suc j = omega (arith, below, up) in e) start
    at (inr above) before = step j above (omega arith) (before above)

-- what each line that is gone past keeps
pub kept-past : (P : ℕ → Type 0) (i j : ℕ) → i ≤ j → ((k : ℕ) → i ≤ k → k < j → P k → P (k + 1)) → P i → P j
kept-past P i j up step =
    kept-up P i j up (λ k first last here. subst P (let e : k + 1 ≡ suc k = omega arith in e) (step k first last here))

-- what never falls from a number to the next
pub rises_to : (f : ℕ → ℕ) → ((n : ℕ) → f n ≤ f (suc n)) → (k n : ℕ) → k ≤ n → f k ≤ f n
rises_to f step k n up = kept-up (λ m. f k ≤ f m) k n up (λ m first last so_far. omega (arith, so_far, step m)) (omega arith)
