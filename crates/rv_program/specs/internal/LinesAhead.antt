-- The lines behind a line that pass a test, one after another.
use Rattle.std.proofs.Common.{◌≡◌, ℕ, zero, suc, ◌+◌, ◌-◌, ◌<◌, ◌≤◌, ◌⊎◌, inl, inr, Bool, true, false, List, [], ◌∷◌, ◌++◌, length, get_or, take, drop, if◌then◌else◌, append_assoc, arith, ap, sym, ◌∙◌, refl}
use Rattle.std.proofs.lemmas.Bool.{cases_lt}
use Rattle.std.proofs.lemmas.List.{append-nil, take_all}
use Rattle.rv_program.specs.Program.{lines_that, lines_ahead}

-- a list does not begin with this line
abbrev pub BeginsOther : List ℕ → (line : ℕ) → Type 0
BeginsOther row line = (rest : List ℕ) → row ≡ line ∷ rest → ⊥

-- a list that is not empty, as its first element and the others
pub first-and-others : (xs : List ℕ) → 1 ≤ length xs → xs ≡ get_or xs 0 0 ∷ take (length xs - 1) (drop 1 xs)
first-and-others [] some = absurd (omega (arith, some))
first-and-others (x ∷ xs) some = ap (λ ys. x ∷ ys) (sym (take_all (length (x ∷ xs) - 1) xs (omega arith)))

module _ (test : ℕ → Bool) where
  and_ahead : (k count : ℕ) → lines_that test k ++ lines_ahead test k count ≡ lines_that test (k + count)
  and_ahead k zero = append-nil (lines_that test k) ∙ ap (lines_that test) (let e : k ≡ k + 0 = omega arith in e)
  and_ahead k (suc count) =
      sym (append_assoc (lines_that test k) (if test (suc k) then suc k ∷ [] else []) (lines_ahead test (suc k) count))
      ∙ and_ahead (suc k) count
      ∙ ap (lines_that test) (let e : suc k + count ≡ k + suc count = omega arith in e)

  -- from the first line on
  pub all_ahead : (n : ℕ) → lines_that test n ≡ lines_ahead test 0 n
  all_ahead n = ap (lines_that test) (let e : n ≡ 0 + n = omega arith in e) ∙ sym (and_ahead 0 n)

  -- where none is ahead, none passes
  pub none_ahead : (k count : ℕ) → lines_ahead test k count ≡ [] → (j : ℕ) → k < j → j ≤ k + count → test j ≡ false
  none_ahead k zero none j after last = absurd (omega (arith, after, last))
  none_ahead k (suc count) none j after last =
      at (test (suc k)) refl none (cases_lt (suc k) j) (λ none more. none_ahead (suc k) count none j more (omega (arith, last)))
    where
      at : (b : Bool) → test (suc k) ≡ b → (if b then suc k ∷ [] else []) ++ lines_ahead test (suc k) count ≡ [] → (suc k < j) ⊎ (j ≤ suc k) → (lines_ahead test (suc k) count ≡ [] → suc k < j → test j ≡ false) → test j ≡ false
      at true is none place rest = absurd (let no : suc k ∷ lines_ahead test (suc k) count ≡ [] = none in cc)
      at false is none (inl more) rest = rest none more
      at false is none (inr less) rest = ap test (let e : j ≡ suc k = omega (arith, less, after) in e) ∙ is

  -- the next one
  pub record IsNext (k count line : ℕ) (rest : List ℕ) : Type 0 where
    pub after : k < line
    pub within : line ≤ k + count
    pub passes : test line ≡ true
    pub between : (j : ℕ) → k < j → j < line → test j ≡ false
    pub behind : rest ≡ lines_ahead test line (k + count - line)

  pub next_ahead : (k count line : ℕ) (rest : List ℕ) → lines_ahead test k count ≡ line ∷ rest → IsNext k count line rest
  next_ahead k zero line rest is = absurd (let no : [] ≡ line ∷ rest = is in cc)
  next_ahead k (suc count) line rest is = at (test (suc k)) refl is (next_ahead (suc k) count line rest)
    where
      passed : test (suc k) ≡ false → (j : ℕ) → k < j → j < line → (suc k < j) ⊎ (j ≤ suc k) → ((j : ℕ) → suc k < j → j < line → test j ≡ false) → test j ≡ false
      passed here j after before (inl more) between = between j more before
      passed here j after before (inr less) between = ap test (let e : j ≡ suc k = omega (arith, less, after) in e) ∙ here

      at : (b : Bool) → test (suc k) ≡ b → (if b then suc k ∷ [] else []) ++ lines_ahead test (suc k) count ≡ line ∷ rest → (lines_ahead test (suc k) count ≡ line ∷ rest → IsNext (suc k) count line rest) → IsNext k (suc count) line rest
      at true here is later =
          let cons : suc k ∷ lines_ahead test (suc k) count ≡ line ∷ rest = is in
          let first : suc k ≡ line = cc in
          let others : lines_ahead test (suc k) count ≡ rest = cc in
          let left : count ≡ k + suc count - suc k = omega arith in
          record {
            after = omega (arith, first);
            within = omega (arith, first);
            passes = ap test (sym first) ∙ here;
            between = λ j after before. absurd (omega (arith, after, before, first));
            behind = sym others ∙ ap (lines_ahead test (suc k)) left ∙ ap (λ m. lines_ahead test m (k + suc count - m)) first;
          }
      at false here is later =
          let next : IsNext (suc k) count line rest = later is in
          let left : suc k + count - line ≡ k + suc count - line = omega arith in
          record {
            after = omega (arith, next.after);
            within = omega (arith, next.within);
            passes = next.passes;
            between = λ j after before. passed here j after before (cases_lt (suc k) j) next.between;
            behind = next.behind ∙ ap (lines_ahead test line) left;
          }

  -- Line by line

  -- where another line is the first of them, or there is none, the next line does not pass
  pub other-fails : (k m : ℕ) (row : List ℕ) → row ≡ lines_ahead test k (suc m) → BeginsOther row (suc k) → test (suc k) ≡ false
  other-fails k m row are other = at (test (suc k)) refl are
    where
      at : (b : Bool) → test (suc k) ≡ b → row ≡ (if b then suc k ∷ [] else []) ++ lines_ahead test (suc k) m → test (suc k) ≡ false
      at true is are = absurd (other (lines_ahead test (suc k) m) are)
      at false is are = is

  -- behind a line that does not pass they are the same
  pub ahead-left : (k m : ℕ) (row : List ℕ) → test (suc k) ≡ false → row ≡ lines_ahead test k (suc m) → row ≡ lines_ahead test (suc k) m
  ahead-left k m row fails are = are ∙ ap (λ b. (if b then suc k ∷ [] else []) ++ lines_ahead test (suc k) m) fails

  -- where the first of them is further on, or there is none, it does not pass
  pub apart-fails : (k m other : ℕ) (row : List ℕ) → row ≡ lines_ahead test k (suc m) → suc k < get_or row 0 other → test (suc k) ≡ false
  apart-fails k m other row are apart = other-fails k m row are (λ rest e. omega (arith, apart, ap (λ xs. get_or xs 0 other) e))
