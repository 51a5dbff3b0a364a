-- The lines of a text after an edit that have another code, listed one by one.
use Rattle.std.proofs.Common.{◌≡◌, ℕ, suc, true, false, List, [], ◌∷◌, ◌++◌, append_assoc, if◌then◌else◌, ap, subst, sym, ◌∙◌, refl}
use Rattle.std.proofs.lemmas.List.{append-nil}
use Rattle.rv_program.specs.internal.Renewals.{changed_through, AreListed}
use Rattle.rv_program.specs.internal.Revisions.{EditedText, changes}

module _ (r : EditedText) where
  changed-next : (k n : ℕ) → n ≡ suc k → changed_through r n ≡ changed_through r k ++ (if changes r n then n ∷ [] else [])
  changed-next k n next =
      subst (λ m. changed_through r m ≡ changed_through r k ++ (if changes r m then m ∷ [] else [])) (sym next) refl

  -- a line that has another code
  pub one_listed : (k n : ℕ) (xs : List ℕ) → n ≡ suc k → changes r n ≡ true → AreListed r k n xs (xs ++ n ∷ [])
  one_listed k n xs next changed = record {
    more = n ∷ [];
    those = changed-next k n next ∙ ap (λ b. changed_through r k ++ (if b then n ∷ [] else [])) changed;
    added = refl;
  }

  -- a line that has not
  pub none_listed : (k n : ℕ) (xs : List ℕ) → n ≡ suc k → changes r n ≡ false → AreListed r k n xs xs
  none_listed k n xs next same = record {
    more = [];
    those = changed-next k n next ∙ ap (λ b. changed_through r k ++ (if b then n ∷ [] else [])) same;
    added = sym (append-nil xs);
  }

  -- where no line is left
  pub nothing_listed : (k : ℕ) (xs : List ℕ) → AreListed r k k xs xs
  nothing_listed k xs = record {
    more = [];
    those = sym (append-nil (changed_through r k));
    added = sym (append-nil xs);
  }

  -- these lines and then those
  pub both_listed : (k m n : ℕ) (xs ys zs : List ℕ) → AreListed r k m xs ys → AreListed r m n ys zs → AreListed r k n xs zs
  both_listed k m n xs ys zs p q = record {
    more = p.more ++ q.more;
    those = q.those ∙ ap (λ ls. ls ++ q.more) p.those ∙ append_assoc (changed_through r k) p.more q.more;
    added = q.added ∙ ap (λ ls. ls ++ q.more) p.added ∙ append_assoc xs p.more q.more;
  }

  -- all lines
  pub all_listed : (n : ℕ) (xs ys : List ℕ) → xs ≡ [] → AreListed r 0 n xs ys → ys ≡ changed_through r n
  all_listed n xs ys empty are = are.added ∙ ap (λ ls. ls ++ are.more) empty ∙ sym are.those
