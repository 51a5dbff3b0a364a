-- Which tokens may begin with a byte, and of which bytes a run consists.
use Rattle.std.proofs.Common.{◌≡◌, ℕ, zero, suc, ◌-◌, ◌<◌, ◌≤◌, Bool, true, false, not, cond, ◌&&◌, ◌||◌, List, [], ◌∷◌, ◌++◌, length, take, drop, get_or, ⊎_elim, refl, subst, ap, ◌∙◌, arith}
use Rattle.std.specs.Prelude.{◌==◌, nat_le}
use Rattle.std.specs.Char.{is_ascii_digit, is_ascii_alphanumeric}
use Rattle.std.specs.List.{list_all, prefix_len}
use Rattle.std.proofs.lemmas.Bool.{and_parts, or_cases, and_from, cases_Bool, eqb-true, not-true}
use Rattle.std.proofs.lemmas.Bool.Decides.{nat_tests}
use Rattle.std.proofs.lemmas.List.Folds.{list_all-append}
use Rattle.rv_text.specs.declared.lexeme.TokenKind.{TokenKind}
use Rattle.rv_text.specs.declared.lexeme.TokenKind.TheVariants.{Identifier, Number, Local, Str, Char, Punctuation}
use Rattle.rv_text.specs.Bytes.{is_identifier_start, is_punctuation_byte}
use Rattle.rv_text.specs.Lexical.{IsOfKind, goes_on}
use Rattle.rv_text.specs.NumberLaws.{digit_no_start, number_first}
use Rattle.rv_text.specs.Numbers.{is_local, is_local_number}

-- the longest prefix of a class
pub run_longest : (p : ℕ → Bool) (bs : List ℕ) (k : ℕ) → prefix_len p bs < k → k ≤ length bs → list_all p (take k bs) ≡ true → ⊥
run_longest p bs zero more fits all = absurd (omega arith)
run_longest p [] (suc k) more fits all = absurd (omega arith)
run_longest p (b ∷ bs) (suc k) more fits all =
    let parts = and_parts (p b) (list_all p (take k bs)) all in
    run_longest p bs k (let more = rw parts.0 at more in omega arith) (omega arith) parts.1

pub run_more : (p : ℕ → Bool) (b : ℕ) (bs : List ℕ) → p b ≡ true → prefix_len p (b ∷ bs) ≡ suc (prefix_len p bs)
run_more p b bs holds = rw holds (omega arith)

pub run_all : (p : ℕ → Bool) (bs : List ℕ) → list_all p (take (prefix_len p bs) bs) ≡ true
run_all p [] = refl
run_all p (b ∷ bs) =
    ⊎_elim
    (λ (holds : p b ≡ true). rw (run_more p b bs holds) (and_from (p b) _ holds (run_all p bs)))
    (λ (no : p b ≡ false). rw no refl)
    (cases_Bool (p b))

pub run_ends : (bs : List ℕ) → goes_on (drop (prefix_len is_ascii_alphanumeric bs) bs) ≡ false
run_ends [] = refl
run_ends (b ∷ bs) =
    ⊎_elim
    (λ (holds : is_ascii_alphanumeric b ≡ true). rw (run_more is_ascii_alphanumeric b bs holds) (run_ends bs))
    (λ (no : is_ascii_alphanumeric b ≡ false). rw no no)
    (cases_Bool (is_ascii_alphanumeric b))

pub digit_is_alphanumeric : (c : ℕ) → is_ascii_digit c ≡ true → is_ascii_alphanumeric c ≡ true
digit_is_alphanumeric c h = grind (arith, nat_tests)

local_number_digits : (cs : List ℕ) → is_local_number cs ≡ true → list_all is_ascii_digit cs ≡ true
local_number_digits [] h = absurd cc
local_number_digits (c ∷ cs) h = (and_parts _ _ (and_parts _ _ h).0).1

decimals_alphanumeric : (cs : List ℕ) → list_all is_ascii_digit cs ≡ true → list_all is_ascii_alphanumeric cs ≡ true
decimals_alphanumeric [] all = refl
decimals_alphanumeric (c ∷ cs) all =
    let parts = and_parts (is_ascii_digit c) (list_all is_ascii_digit cs) all in
    and_from _ _ (digit_is_alphanumeric c parts.0) (decimals_alphanumeric cs parts.1)

-- all but the last, and the last
pub last_after : (c : ℕ) (cs : List ℕ) → take (length cs) (c ∷ cs) ++ get_or (c ∷ cs) (length cs) 0 ∷ [] ≡ c ∷ cs
last_after c [] = refl
last_after c (d ∷ ds) = ap (λ l. c ∷ l) (last_after d ds)

pub local_parts : (c : ℕ) (cs : List ℕ) → is_local (c ∷ cs) ≡ true → (is_local_number (take (length cs) (c ∷ cs)) ≡ true) × ((get_or (c ∷ cs) (length cs) 0 == 0x62 || get_or (c ∷ cs) (length cs) 0 == 0x66) ≡ true)
local_parts c cs h = let e : length (c ∷ cs) - 1 ≡ length cs = omega arith in and_parts _ _ (rw e at h)

letter_last : (c : ℕ) → (c == 0x62 || c == 0x66) ≡ true → is_ascii_alphanumeric c ≡ true
letter_last c h = grind (arith, nat_tests)

pub local_alphanumeric : (cs : List ℕ) → is_local cs ≡ true → list_all is_ascii_alphanumeric cs ≡ true
local_alphanumeric [] h = absurd cc
local_alphanumeric (c ∷ cs) h =
    let parts = local_parts c cs h in
    let digits = take (length cs) (c ∷ cs) in
    let prefix = decimals_alphanumeric digits (local_number_digits digits parts.0) in
    let last = letter_last (get_or (c ∷ cs) (length cs) 0) parts.1 in
    subst (λ l. list_all is_ascii_alphanumeric l ≡ true) (last_after c cs) (list_all-append is_ascii_alphanumeric (take (length cs) (c ∷ cs)) (get_or (c ∷ cs) (length cs) 0 ∷ []) ∙ and_from _ _ prefix (and_from _ _ last refl))

pub local_first : (c : ℕ) (cs : List ℕ) → is_local (c ∷ cs) ≡ true → is_ascii_digit c ≡ true
local_first c [] h = absurd (let parts = local_parts c [] h in cc)
local_first c (d ∷ ds) h =
    (and_parts (is_ascii_digit c) (list_all is_ascii_digit (take (length ds) (d ∷ ds))) (local_number_digits (c ∷ take (length ds) (d ∷ ds)) (local_parts c (d ∷ ds) h).0)).0

-- the class of a byte, by the kinds of tokens that begin with it
abbrev pub class_of : ℕ → ℕ
class_of b =
    cond (is_identifier_start b) 1 (cond (is_ascii_digit b) 2 (cond (b == 0x22) 3 (cond (b == 0x27) 4 (cond (is_punctuation_byte b) 5 0))))

abbrev pub class_of_kind : TokenKind → ℕ
class_of_kind Identifier = 1
class_of_kind Number = 2
class_of_kind Local = 2
class_of_kind Str = 3
class_of_kind Char = 4
class_of_kind Punctuation = 5

pub start_class : (b : ℕ) → is_identifier_start b ≡ true → class_of b ≡ 1
start_class b h = rw h refl

pub digit_class : (b : ℕ) → is_ascii_digit b ≡ true → class_of b ≡ 2
digit_class b h = rw (digit_no_start b h, h) refl

punctuation_class : (b : ℕ) → (is_punctuation_byte b && not (is_identifier_start b) && not (is_ascii_digit b)) ≡ true → class_of b ≡ 5
punctuation_class b h =
    let outer = and_parts (is_punctuation_byte b && not (is_identifier_start b)) (not (is_ascii_digit b)) h in
    let inner = and_parts (is_punctuation_byte b) (not (is_identifier_start b)) outer.0 in
    let last = and_parts (nat_le 0x21 b && nat_le b 0x7E && not (b == 0x22)) (not (b == 0x27)) inner.0 in
    let third = and_parts (nat_le 0x21 b && nat_le b 0x7E) (not (b == 0x22)) last.0 in
    rw (inner.0, not-true (is_identifier_start b) inner.1, not-true (is_ascii_digit b) outer.1, not-true (b == 0x22) third.1, not-true (b == 0x27) last.1) refl

-- a token begins with a byte of its kind's class
pub first_class : (kind : TokenKind) (b : ℕ) (bs : List ℕ) → IsOfKind kind (b ∷ bs) → class_of b ≡ class_of_kind kind
first_class Identifier b bs h = start_class b (and_parts _ _ h).0
first_class Number b bs h = digit_class b (number_first b bs h)
first_class Local b bs h = digit_class b (local_first b bs h)
first_class Str b bs h = rw h.0 refl
first_class Char b [] h = absurd h
first_class Char b (c ∷ cs) h = rw h.0 refl
first_class Punctuation b [] h = punctuation_class b h
first_class Punctuation b (c ∷ []) h =
    ⊎_elim
    (λ (less : (b == 0x3C && c == 0x3C) ≡ true). let e = eqb-true b 0x3C (and_parts _ _ less).0 in rw e refl)
    (λ (more : (b == 0x3E && c == 0x3E) ≡ true). let e = eqb-true b 0x3E (and_parts _ _ more).0 in rw e refl)
    (or_cases _ _ h)
first_class Punctuation b (c ∷ d ∷ ds) h = absurd cc
