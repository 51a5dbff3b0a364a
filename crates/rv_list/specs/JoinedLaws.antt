-- What holds of lists one after another.
use Rattle.std.proofs.Common.{◌≡◌, ℕ, zero, suc, ◌+◌, List, [], ◌++◌, length, refl, ap, sym, ◌∙◌, arith, append_assoc, add-one}
use Rattle.std.proofs.lemmas.List.{append-nil, length-append}
use Rattle.rv_list.specs.Joined.{joined}

-- one more
pub joined_more : {A : Type 0} (f : ℕ → List A) (k : ℕ) → joined f (k + 1) ≡ joined f k ++ f k
joined_more f k = rw add-one refl

-- the next one is empty
pub joined_none : {A : Type 0} (f : ℕ → List A) (k : ℕ) → f k ≡ [] → joined f (k + 1) ≡ joined f k
joined_none f k none = joined_more f k ∙ ap (λ l. joined f k ++ l) none ∙ append-nil (joined f k)

-- there is more after the first ones
pub record Then {A : Type 0} (f : ℕ → List A) (k n : ℕ) : Type 0 where
  pub later : List A
  pub whole : joined f n ≡ joined f k ++ later

pub joined_then : {A : Type 0} (f : ℕ → List A) (k more : ℕ) → Then f k (k + more)
joined_then f k zero = record { later = []; whole = let e : k + 0 ≡ k = omega arith in rw e (sym (append-nil (joined f k))) }
joined_then f k (suc more) =
    let before = joined_then f k more in
    let e : k + suc more ≡ suc (k + more) = omega arith in
    record {
      later = before.later ++ f (k + more);
      whole = rw e (rw before.whole (append_assoc (joined f k) before.later (f (k + more))));
    }

-- how many there are
pub length_of_more : {A : Type 0} (f : ℕ → List A) (k : ℕ) → length (joined f (k + 1)) ≡ length (joined f k) + length (f k)
length_of_more f k = ap length (joined_more f k) ∙ length-append (joined f k) (f k)
