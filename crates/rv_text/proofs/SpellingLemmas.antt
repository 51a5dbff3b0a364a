-- Which bytes spell a byte, a string and a character, whatever stands after them.
use Rattle.std.proofs.Common.{◌≡◌, ℕ, zero, suc, ◌+◌, ◌<◌, ◌≤◌, min, Bool, true, false, cond, List, [], ◌∷◌, ◌++◌, length, take, Option, Some, None, option_map, ⊎_elim, sym, refl, ap, ◌∙◌, arith}
use Rattle.std.specs.Prelude.{◌==◌, nat_lt, option_and_then}
use Rattle.std.specs.List.{prefix_len}
use Rattle.std.proofs.lemmas.Bool.{cases_Bool, cond-true, cond-false}
use Rattle.std.proofs.lemmas.List.{take-take, take-append-le}
use Rattle.std.proofs.lemmas.List.Sums.{prefix_len-le-length}
use Rattle.rv_text.specs.declared.strings.Spelling.{Spelling}
use Rattle.rv_text.specs.Numbers.{digits_number}
use Rattle.rv_text.specs.Strings.{is_octal, octal_escape, letter_escape, escape, spelled}

-- how long a run is in a prefix of a list, and in a longer list
run_take : (p : ℕ → Bool) (n : ℕ) (bs : List ℕ) → prefix_len p (take n bs) ≡ min n (prefix_len p bs)
run_take p zero bs = omega arith
run_take p (suc n) [] = omega arith
run_take p (suc n) (b ∷ bs) =
    ⊎_elim
    (λ (holds : p b ≡ true). rw holds (omega (arith, run_take p n bs)))
    (λ (fails : p b ≡ false). rw fails (omega arith))
    (cases_Bool (p b))

run_append : (p : ℕ → Bool) (j : ℕ) (bs rest : List ℕ) → min j (prefix_len p bs) < length bs → min j (prefix_len p (bs ++ rest)) ≡ min j (prefix_len p bs)
run_append p j [] rest h = absurd (omega arith)
run_append p zero (b ∷ bs) rest h = omega arith
run_append p (suc j) (b ∷ bs) rest h =
    ⊎_elim
    (λ (holds : p b ≡ true). let h = rw holds at h in rw holds (omega (arith, run_append p j bs rest (omega arith))))
    (λ (fails : p b ≡ false). rw fails refl)
    (cases_Bool (p b))

-- the length of an octal escape
abbrev octal_of : ℕ → Option ℕ → Option Spelling
octal_of n value = option_and_then (λ v. cond (nat_lt v 256) (Some (record { byte = v; len = n })) None) value

chosen_len : (t : Bool) (v n : ℕ) (s : Spelling) → cond t (Some (record { byte = v; len = n })) None ≡ Some s → s.len ≡ n
chosen_len true v n s h = let e : record { byte = v; len = n } ≡ s = cc in sym (ap (λ (s : Spelling). s.len) e)
chosen_len false v n s h = absurd cc

octal_of_len : (n : ℕ) (value : Option ℕ) (s : Spelling) → octal_of n value ≡ Some s → s.len ≡ n
octal_of_len n None s h = absurd cc
octal_of_len n (Some v) s h = chosen_len (nat_lt v 256) v n s h

octal_len : (bs : List ℕ) (s : Spelling) → octal_escape bs ≡ Some s → s.len ≡ min 3 (prefix_len is_octal bs)
octal_len bs s h = octal_of_len (min 3 (prefix_len is_octal bs)) (digits_number 8 (take (min 3 (prefix_len is_octal bs)) bs)) s h

octal_take : (n : ℕ) (bs : List ℕ) (s : Spelling) → octal_escape bs ≡ Some s → s.len ≤ n → octal_escape (take n bs) ≡ Some s
octal_take n bs s h fits =
    let len = octal_len bs s h in
    let same : min 3 (prefix_len is_octal (take n bs)) ≡ min 3 (prefix_len is_octal bs) = omega (arith, run_take is_octal n bs) in
    rw (same, take-take (min 3 (prefix_len is_octal bs)) n bs (omega arith)) h

octal_append : (bs rest : List ℕ) (s : Spelling) → octal_escape bs ≡ Some s → s.len < length bs → octal_escape (bs ++ rest) ≡ Some s
octal_append bs rest s h within =
    let len = octal_len bs s h in
    let same = run_append is_octal 3 bs rest (omega arith) in
    rw (same, take-append-le (min 3 (prefix_len is_octal bs)) bs rest (omega arith)) h

-- a spelling after a backslash
letter_len : (o : Option ℕ) (s : Spelling) → option_map (λ b. record { byte = b; len = 1 }) o ≡ Some s → s.len ≡ 1
letter_len None s h = absurd cc
letter_len (Some b) s h = let e : record { byte = b; len = 1 } ≡ s = cc in sym (ap (λ (s : Spelling). s.len) e)

escape_octal : (c : ℕ) (cs : List ℕ) → is_octal c ≡ true → escape (c ∷ cs) ≡ octal_escape (c ∷ cs)
escape_octal c cs h = cond-true (is_octal c) _ _ h

escape_letter : (c : ℕ) (cs : List ℕ) → is_octal c ≡ false → escape (c ∷ cs) ≡ option_map (λ b. record { byte = b; len = 1 }) (letter_escape c)
escape_letter c cs h = cond-false (is_octal c) _ _ h

escape_len : (bs : List ℕ) (s : Spelling) → escape bs ≡ Some s → (1 ≤ s.len) × (s.len ≤ length bs)
escape_len [] s h = absurd cc
escape_len (c ∷ cs) s h =
    ⊎_elim
    (λ (octal : is_octal c ≡ true).
    let len = octal_len (c ∷ cs) s (sym (escape_octal c cs octal) ∙ h) in
    let some : 1 ≤ prefix_len is_octal (c ∷ cs) = rw octal (omega arith) in
    (omega arith, omega (arith, prefix_len-le-length is_octal (c ∷ cs))))
    (λ (letter : is_octal c ≡ false). let len = letter_len (letter_escape c) s (sym (escape_letter c cs letter) ∙ h) in (omega arith, omega arith))
    (cases_Bool (is_octal c))

escape_take : (n : ℕ) (bs : List ℕ) (s : Spelling) → escape bs ≡ Some s → s.len ≤ n → escape (take n bs) ≡ Some s
escape_take n [] s h fits = absurd cc
escape_take zero (c ∷ cs) s h fits = absurd (omega (arith, (escape_len (c ∷ cs) s h).0))
escape_take (suc n) (c ∷ cs) s h fits =
    ⊎_elim
    (λ (octal : is_octal c ≡ true). escape_octal c (take n cs) octal ∙ octal_take (suc n) (c ∷ cs) s (sym (escape_octal c cs octal) ∙ h) fits)
    (λ (letter : is_octal c ≡ false). escape_letter c (take n cs) letter ∙ sym (escape_letter c cs letter) ∙ h)
    (cases_Bool (is_octal c))

escape_append : (bs rest : List ℕ) (s : Spelling) → escape bs ≡ Some s → s.len < length bs → escape (bs ++ rest) ≡ Some s
escape_append [] rest s h within = absurd cc
escape_append (c ∷ cs) rest s h within =
    ⊎_elim
    (λ (octal : is_octal c ≡ true). escape_octal c (cs ++ rest) octal ∙ octal_append (c ∷ cs) rest s (sym (escape_octal c cs octal) ∙ h) within)
    (λ (letter : is_octal c ≡ false). escape_letter c (cs ++ rest) letter ∙ sym (escape_letter c cs letter) ∙ h)
    (cases_Bool (is_octal c))

-- a spelling
abbrev after_backslash : Spelling → Spelling
after_backslash s = record { byte = s.byte; len = s.len + 1 }

mapped : (o : Option Spelling) (s : Spelling) → option_map after_backslash o ≡ Some s → (e : Spelling) × (o ≡ Some e) × (after_backslash e ≡ s)
mapped None s h = absurd cc
mapped (Some e) s h = (e, refl, cc)

plain_len : (b : ℕ) (s : Spelling) → Some (record { byte = b; len = 1 }) ≡ Some s → s.len ≡ 1
plain_len b s h = let e : record { byte = b; len = 1 } ≡ s = cc in sym (ap (λ (s : Spelling). s.len) e)

pub spelled_len : (bs : List ℕ) (s : Spelling) → spelled bs ≡ Some s → (1 ≤ s.len) × (s.len ≤ length bs)
spelled_len [] s h = absurd cc
spelled_len (b ∷ bs) s h =
    ⊎_elim
    (λ (escaped : (b == 0x5C) ≡ true).
    let (e, stands, is) = mapped (escape bs) s (rw escaped at h) in
    let len = escape_len bs e stands in
    let more : e.len + 1 ≡ s.len = ap (λ (s : Spelling). s.len) is in
    (omega arith, omega arith))
    (λ (plain : (b == 0x5C) ≡ false). let len = plain_len b s (rw plain at h) in (omega arith, omega arith))
    (cases_Bool (b == 0x5C))

pub spelled_take : (n : ℕ) (bs : List ℕ) (s : Spelling) → spelled bs ≡ Some s → s.len ≤ n → spelled (take n bs) ≡ Some s
spelled_take n [] s h fits = absurd cc
spelled_take zero (b ∷ bs) s h fits = absurd (omega (arith, (spelled_len (b ∷ bs) s h).0))
spelled_take (suc n) (b ∷ bs) s h fits =
    ⊎_elim
    (λ (escaped : (b == 0x5C) ≡ true).
    let (e, stands, is) = mapped (escape bs) s (rw escaped at h) in
    let more : e.len + 1 ≡ s.len = ap (λ (s : Spelling). s.len) is in
    rw (escaped, escape_take n bs e stands (omega arith)) (ap Some is))
    (λ (plain : (b == 0x5C) ≡ false). rw plain (rw plain at h))
    (cases_Bool (b == 0x5C))

pub spelled_append : (bs rest : List ℕ) (s : Spelling) → spelled bs ≡ Some s → s.len < length bs → spelled (bs ++ rest) ≡ Some s
spelled_append [] rest s h within = absurd cc
spelled_append (b ∷ bs) rest s h within =
    ⊎_elim
    (λ (escaped : (b == 0x5C) ≡ true).
    let (e, stands, is) = mapped (escape bs) s (rw escaped at h) in
    let more : e.len + 1 ≡ s.len = ap (λ (s : Spelling). s.len) is in
    rw (escaped, escape_append bs rest e stands (omega arith)) (ap Some is))
    (λ (plain : (b == 0x5C) ≡ false). rw plain (rw plain at h))
    (cases_Bool (b == 0x5C))
