-- The bytes of a section, line by line.
use Rattle.std.proofs.Common.{◌≡◌, ℕ, zero, suc, ◌+◌, ◌-◌, ◌<◌, ◌≤◌, ◌⊎◌, inl, inr, List, [], ◌++◌, length, drop, get_or, Some, None, refl, ap, sym, ◌∙◌, arith, append_assoc}
use Rattle.std.proofs.lemmas.List.{append-nil, drop_all}
use Rattle.std.proofs.lemmas.Option.{slice_get_cases, none-some}
use Rattle.std.specs.Prelude.{slice_get}
use Rattle.rv_list.specs.Image.{section_bytes}
use Rattle.rv_list.specs.Joined.{joined}
use Rattle.rv_list.specs.Later.{later, bytes_after, bytes_of_last, bytes_left}
use Rattle.rv_list.specs.Shown.{Shown}

-- one more at the end
later_more : {A : Type 0} (f : ℕ → List A) (k n : ℕ) → later f k (suc n) ≡ later f k n ++ f (k + n)
later_more f k zero =
    let e : k + 0 ≡ k = omega arith in
    rw e (append-nil (f k))
later_more f k (suc n) =
    let e : k + suc n ≡ suc k + n = omega arith in
    rw e (ap (λ l. f k ++ l) (later_more f (suc k) n) ∙ sym (append_assoc (f k) (later f (suc k) n) (f (suc k + n))))

-- all of them
later_all : {A : Type 0} (f : ℕ → List A) (n : ℕ) → later f 0 n ≡ joined f n
later_all f zero = refl
later_all f (suc n) =
    let e : 0 + n ≡ n = omega arith in
    let more : later f 0 (suc n) ≡ later f 0 n ++ f (0 + n) = later_more f 0 n in
    (rw e at more) ∙ ap (λ l. l ++ f n) (later_all f n)

-- nothing is taken yet
pub none_taken : (shown : Shown) (t : ℕ) → later (bytes_after shown t) 0 (shown.count - 0) ≡ section_bytes shown t
unfolding section_bytes
none_taken shown t =
    let e : shown.count - 0 ≡ shown.count = omega arith in
    rw e (later_all (bytes_after shown t) shown.count)

all_taken : (bytes : List ℕ) (taken : ℕ) → None ≡ slice_get bytes taken → drop taken bytes ≡ []
all_taken bytes taken none = at (slice_get_cases bytes taken).1
  where
    at : ((x : ℕ) × (taken < length bytes) × (slice_get bytes taken ≡ Some x) × (get_or bytes taken x ≡ x)) ⊎ ((length bytes ≤ taken) × (slice_get bytes taken ≡ None)) → drop taken bytes ≡ []
    at (inl (x, l, e, g)) = absurd (none-some x (none ∙ e))
    at (inr (l, e)) = drop_all taken bytes l

-- all of a line is taken, so that the next one comes
pub next_line : (shown : Shown) (t passed taken : ℕ) → None ≡ slice_get (bytes_of_last shown t passed) taken → passed < shown.count → bytes_left shown t (passed + 1) 0 ≡ bytes_left shown t passed taken
next_line shown t passed taken none within =
    let one : passed + 1 ≡ suc passed = omega arith in
    let count : shown.count - passed ≡ suc (shown.count - suc passed) = omega (arith, within) in
    rw (one, all_taken (bytes_of_last shown t passed) taken none, count) refl
