-- Rows of lines that are counted.
use Rattle.std.proofs.Common.{◌≡◌, ℕ, zero, suc, true≢false, ◌+◌, ◌-◌, ◌<◌, nat_lt, Bool, true, false, List, [], ◌∷◌, length, take, drop, min, filter, if◌then◌else◌, refl, ap, sym, ◌∙◌, arith}
use Rattle.std.proofs.lemmas.Bool.Decides.{nat_tests}
use Rattle.std.specs.Prelude.{◌||◌}
use Rattle.std.specs.List.{list_any}
use Rattle.rv_list.specs.Joined.{joined}
use Rattle.rv_list.specs.JoinedLaws.{length_of_more}
use Rattle.rv_diagnostics.specs.Published.{is_long, long_count}

-- Rows before a line

before_more : {A : Type 0} (rows : ℕ → List A) (at k n old new : ℕ) (b : Bool) → nat_lt k at ≡ b → n ≡ length (rows k) → old ≡ length (joined rows (min at k)) → new ≡ (if b then old + n else old) → new ≡ length (joined rows (min at (k + 1)))
before_more rows at k n old new true is here was now =
    let one : min at (k + 1) ≡ k + 1 = grind (arith, nat_tests, is) in
    let zero : min at k ≡ k = grind (arith, nat_tests, is) in
    now ∙ let sum : old + n ≡ length (joined rows k) + length (rows k) = omega (arith, here, was, ap (λ i. length (joined rows i)) zero) in sum
    ∙ sym (length_of_more rows k) ∙ ap (λ i. length (joined rows i)) (sym one)
before_more rows at k n old new false is here was now =
    let same : min at k ≡ min at (k + 1) = grind (arith, nat_tests, is) in
    now ∙ was ∙ ap (λ i. length (joined rows i)) same

-- one more line
pub counted_before : {A : Type 0} (rows : ℕ → List A) (at k n old new : ℕ) → n ≡ length (rows k) → old ≡ length (joined rows (min at k)) → new ≡ (if nat_lt k at then old + n else old) → new ≡ length (joined rows (min at (k + 1)))
counted_before rows at k n old new here was now = before_more rows at k n old new (nat_lt k at) refl here was now

same : (b : Bool) (count : ℕ) → count ≡ (if b then count + 0 else count)
same true count = omega arith
same false count = refl

-- it has none
pub counted_quiet : {A : Type 0} (rows : ℕ → List A) (at k count : ℕ) → rows k ≡ [] → count ≡ length (joined rows (min at k)) → count ≡ length (joined rows (min at (k + 1)))
counted_quiet rows at k count none was =
    counted_before rows at k 0 count count (sym (ap length none)) was (same (nat_lt k at) count)

-- Lines that are too long

filter_more : {A : Type 0} (p : A → Bool) (x : A) (xs : List A) → length (filter p (x ∷ xs)) ≡ length (filter p (x ∷ [])) + length (filter p xs)
filter_more p x xs = at (p x) refl
  where
    at : (b : Bool) → p x ≡ b → length (filter p (x ∷ xs)) ≡ length (filter p (x ∷ [])) + length (filter p xs)
    at true e = rw e (omega arith)
    at false e = rw e (omega arith)

-- the first line, and the others up to a limit
pub long_more : (limit k here old new total : ℕ) (line : List ℕ) (later lines : List (List ℕ)) → k < limit → lines ≡ line ∷ later → here ≡ long_count (line ∷ []) → old + long_count (take (limit - k) lines) ≡ total → new ≡ old + here → new + long_count (take (limit - (k + 1)) later) ≡ total
long_more limit k here old new total line later lines lt is one was now =
    let n = limit - (k + 1) in
    let more : limit - k ≡ suc n = omega (arith, lt) in
    let cut : long_count (take (limit - k) lines) ≡ long_count (line ∷ []) + long_count (take n later) =
    ap (λ i. long_count (take i lines)) more ∙ ap (λ l. long_count (take (suc n) l)) is ∙ filter_more is_long line (take n later) in
    omega (arith, cut, one, was, now)

before_by : (at limit k here old new total : ℕ) (line : List ℕ) (later lines : List (List ℕ)) (b : Bool) → nat_lt k at ≡ b → k < limit → lines ≡ line ∷ later → here ≡ long_count (line ∷ []) → old + long_count (take (at - k) (take (limit - k) lines)) ≡ total → new ≡ (if b then old + here else old) → new + long_count (take (at - (k + 1)) (take (limit - (k + 1)) later)) ≡ total
before_by at limit k here old new total line later lines true test lt is one was now =
    let n = limit - (k + 1) in
    let i = at - (k + 1) in
    let more : limit - k ≡ suc n = omega (arith, lt) in
    let before : at - k ≡ suc i = grind (arith, nat_tests, test) in
    let cut : long_count (take (at - k) (take (limit - k) lines)) ≡ long_count (line ∷ []) + long_count (take i (take n later)) =
    ap (λ j. long_count (take j (take (limit - k) lines))) before ∙ ap (λ j. long_count (take (suc i) (take j lines))) more ∙ ap (λ l. long_count (take (suc i) (take (suc n) l))) is ∙ filter_more is_long line (take i (take n later)) in
    omega (arith, cut, one, was, now)
before_by at limit k here old new total line later lines false test lt is one was now =
    let none : at - k ≡ 0 = grind (arith, nat_tests, test) in
    let none' : at - (k + 1) ≡ 0 = grind (arith, nat_tests, test) in
    let now' : new ≡ old = now in
    let zero : long_count (take (at - k) (take (limit - k) lines)) ≡ 0 = ap (λ j. long_count (take j (take (limit - k) lines))) none in
    let zero' : long_count (take (at - (k + 1)) (take (limit - (k + 1)) later)) ≡ 0 = ap (λ j. long_count (take j (take (limit - (k + 1)) later))) none' in
    omega (arith, zero, zero', was, now')

-- the same of those that stand before a line
pub long_before : (at limit k here old new total : ℕ) (line : List ℕ) (later lines : List (List ℕ)) → k < limit → lines ≡ line ∷ later → here ≡ long_count (line ∷ []) → old + long_count (take (at - k) (take (limit - k) lines)) ≡ total → new ≡ (if nat_lt k at then old + here else old) → new + long_count (take (at - (k + 1)) (take (limit - (k + 1)) later)) ≡ total
long_before at limit k here old new total line later lines lt is one was now =
    before_by at limit k here old new total line later lines (nat_lt k at) refl lt is one was now

-- Lines none of which is too long

either : (a b : Bool) → (a || b) ≡ false → (a ≡ false) × (b ≡ false)
either true b e = absurd (true≢false e)
either false b e = (refl, e)

none_by : {A : Type 0} (p : A → Bool) (x : A) (xs : List A) → p x ≡ false → filter p xs ≡ [] → filter p (x ∷ xs) ≡ []
none_by p x xs e none = rw e none

none_filtered : {A : Type 0} (p : A → Bool) (n : ℕ) (xs : List A) → list_any p xs ≡ false → filter p (take n xs) ≡ []
none_filtered p zero xs none = refl
none_filtered p (suc n) [] none = refl
none_filtered p (suc n) (x ∷ xs) none = let both = either (p x) (list_any p xs) none in none_by p x (take n xs) both.0 (none_filtered p n xs both.1)

any_taken : {A : Type 0} (p : A → Bool) (n : ℕ) (xs : List A) → list_any p xs ≡ false → list_any p (take n xs) ≡ false
any_taken p zero xs none = refl
any_taken p (suc n) [] none = refl
any_taken p (suc n) (x ∷ xs) none = let both = either (p x) (list_any p xs) none in rw (both.0, any_taken p n xs both.1) refl

-- none of the first lines is counted where no line is too long
pub none_long : (n : ℕ) (lines : List (List ℕ)) → list_any is_long lines ≡ false → 0 ≡ long_count (take n lines)
none_long n lines none = sym (ap length (none_filtered is_long n lines none))

pub none_long_before : (at n : ℕ) (lines : List (List ℕ)) → list_any is_long lines ≡ false → 0 ≡ long_count (take at (take n lines))
none_long_before at n lines none = none_long at (take n lines) (any_taken is_long n lines none)

-- Lines past the limit

-- one line is passed
pub dropped_one : {A : Type 0} (limit k : ℕ) (line : A) (later lines all : List A) → k < limit → lines ≡ line ∷ later → drop (limit - k) lines ≡ all → drop (limit - (k + 1)) later ≡ all
dropped_one limit k line later lines all lt is was =
    let more : limit - k ≡ suc (limit - (k + 1)) = omega (arith, lt) in
    sym (ap (λ n. drop n lines) more ∙ ap (drop (suc (limit - (k + 1)))) is) ∙ was

-- all of them are
pub dropped_all : {A : Type 0} (n : ℕ) (lines all : List A) → n ≡ 0 → drop n lines ≡ all → lines ≡ all
dropped_all n lines all none was = sym (ap (λ i. drop i lines) none) ∙ was
