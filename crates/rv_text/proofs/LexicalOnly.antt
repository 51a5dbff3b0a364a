-- No other tokens than those of a line are lexical.
use Rattle.std.proofs.Common.{◌≡◌, ℕ, zero, suc, ◌+◌, ◌-◌, ◌*◌, ◌<◌, ◌≤◌, ◌^◌, true, false, not, ◌&&◌, ◌||◌, List, [], ◌∷◌, length, take, drop, get_or, Option, None, ⊎_elim, sym, refl, subst, ap, ◌∙◌, arith}
use Rattle.std.specs.Prelude.{◌==◌, is_some, nat_le, nat_lt}
use Rattle.std.specs.Char.{is_digit, digit_value, is_ascii_digit, is_ascii_alphanumeric}
use Rattle.std.specs.List.{list_all, prefix_len}
use Rattle.std.proofs.lemmas.Bool.{and_parts, or_cases, cases_Bool, cases_order, cond-true, cond-false, eqb-true, both_ways}
use Rattle.std.proofs.lemmas.Bool.Decides.{nat_tests}
use Rattle.std.proofs.lemmas.List.Folds.{list_all-append}
use Rattle.rv_text.specs.declared.faults.Fault.{Fault}
use Rattle.rv_text.specs.declared.faults.FaultNumber.{FaultNumber}
use Rattle.rv_text.specs.declared.faults.FaultNumber.TheVariants.{BadByte, BadNumber, BadString}
use Rattle.rv_text.specs.declared.lexeme.Token.{Token}
use Rattle.rv_text.specs.declared.lexeme.TokenKind.{TokenKind}
use Rattle.rv_text.specs.declared.lexeme.TokenKind.TheVariants.{Identifier, Number, Local, Str, Char, Punctuation}
use Rattle.rv_text.specs.declared.lexeme.Prefix.{Prefix}
use Rattle.rv_text.specs.declared.lexeme.Prefix.TheVariants.{Whitespace, Comment, Lexeme, Wrong}
use Rattle.rv_text.specs.Bytes.{is_whitespace}
use Rattle.rv_text.specs.Lexing.{Lexed, begins, begins_comment, prefix, with_rest, tokens_from, tokens_of}
use Rattle.rv_text.specs.Lexical.{IsOfKind, IsLongest, EndsRun, goes_on, IsWrong, IsBadNumber, Reads, ended, comment, whitespace, token, wrong}
use Rattle.rv_text.specs.Numbers.{number_of, is_local, is_local_number}
use Rattle.rv_text.proofs.ByteClasses.{local_alphanumeric, class_of, class_of_kind, digit_class, first_class, local_parts, last_after}
use Rattle.rv_text.specs.NumberLaws.{number_alphanumeric, digits_all}
use Rattle.rv_text.proofs.LexicalLaw.{some_bytes}
use Rattle.rv_text.proofs.LexicalLemmas.{IsLexeme, Stands, prefix_stands, kind_of}
use Rattle.rv_text.specs.TokenLaws.{tokens_from-taken}

-- a run that ends where no digit and no letter stands is the longest
run_is : (bs : List ℕ) (n : ℕ) → n ≤ length bs → list_all is_ascii_alphanumeric (take n bs) ≡ true → goes_on (drop n bs) ≡ false → prefix_len is_ascii_alphanumeric bs ≡ n
run_is [] zero fits all ends = refl
run_is [] (suc n) fits all ends = absurd (omega arith)
run_is (b ∷ bs) zero fits all ends = rw ends refl
run_is (b ∷ bs) (suc n) fits all ends =
    let parts = and_parts (is_ascii_alphanumeric b) (list_all is_ascii_alphanumeric (take n bs)) all in
    let more = run_is bs n (omega arith) parts.1 ends in
    rw parts.0 (omega arith)

-- no text is both a number and a local label
last_no_digit : (c : ℕ) → (c == 0x62 || c == 0x66) ≡ true → is_digit c 10 ≡ false
last_no_digit c h =
    ⊎_elim
    (λ (back : (c == 0x62) ≡ true). let e = eqb-true c 0x62 back in rw e refl)
    (λ (ahead : (c == 0x66) ≡ true). let e = eqb-true c 0x66 ahead in rw e refl)
    (or_cases _ _ h)

not_decimal : (c : ℕ) (cs : List ℕ) → list_all (λ c. is_digit c 10) (c ∷ cs) ≡ true → (get_or (c ∷ cs) (length cs) 0 == 0x62 || get_or (c ∷ cs) (length cs) 0 == 0x66) ≡ true → ⊥
not_decimal c cs all last =
    let l = get_or (c ∷ cs) (length cs) 0 in
    let split = sym (list_all-append (λ c. is_digit c 10) (take (length cs) (c ∷ cs)) (l ∷ [])) ∙ subst (λ xs. list_all (λ c. is_digit c 10) xs ≡ true) (sym (last_after c cs)) all in
    let digit = and_parts (is_digit l 10) true (and_parts (list_all (λ c. is_digit c 10) (take (length cs) (c ∷ cs))) (is_digit l 10 && true) split).1 in
    both_ways (is_digit l 10) (last_no_digit l last) digit.0

zero_then : (c d : ℕ) → (c == 0x30) ≡ true → (d == 0x62 || d == 0x66) ≡ true → is_some (number_of (c ∷ d ∷ [])) ≡ false
zero_then c d null h =
    ⊎_elim
    (λ (back : (d == 0x62) ≡ true). let e = eqb-true d 0x62 back in let z = eqb-true c 0x30 null in rw (e, z) refl)
    (λ (ahead : (d == 0x66) ≡ true). let e = eqb-true d 0x66 ahead in let z = eqb-true c 0x30 null in rw (e, z) refl)
    (or_cases _ _ h)

zero_alone : (c : ℕ) (cs : List ℕ) → (c == 0x30) ≡ true → is_local_number (c ∷ cs) ≡ true → (length (c ∷ cs) == 1) ≡ true
zero_alone c cs null h = let last = (and_parts (nat_le (length (c ∷ cs)) 4 && list_all is_ascii_digit (c ∷ cs)) (not (c == 0x30) || length (c ∷ cs) == 1) h).1 in rw null at last

not_both : (c : ℕ) (cs : List ℕ) → is_some (number_of (c ∷ cs)) ≡ true → is_local (c ∷ cs) ≡ true → ⊥
not_both c [] number local = absurd (let parts = local_parts c [] local in cc)
not_both c (d ∷ []) number local =
    let last = (local_parts c (d ∷ []) local).1 in
    ⊎_elim
    (λ (zero : (c == 0x30) ≡ true). both_ways (is_some (number_of (c ∷ d ∷ []))) (zero_then c d zero last) number)
    (λ (other : (c == 0x30) ≡ false). not_decimal c (d ∷ []) (digits_all 10 (c ∷ d ∷ []) (rw other at number)) last)
    (cases_Bool (c == 0x30))
not_both c (d ∷ e ∷ es) number local =
    let parts = local_parts c (d ∷ e ∷ es) local in
    ⊎_elim
    (λ (zero : (c == 0x30) ≡ true). absurd (let one = eqb-true _ _ (zero_alone c (take (length (e ∷ es)) (d ∷ e ∷ es)) zero parts.0) in omega arith))
    (λ (other : (c == 0x30) ≡ false). not_decimal c (d ∷ e ∷ es) (digits_all 10 (c ∷ d ∷ e ∷ es) (rw other at number)) parts.1)
    (cases_Bool (c == 0x30))

same_kind : (x y : TokenKind) (b : ℕ) (bs : List ℕ) → IsOfKind x (b ∷ bs) → IsOfKind y (b ∷ bs) → x ≡ y
same_kind Identifier Identifier b bs x y = refl
same_kind Identifier Number b bs x y = absurd (let e : 2 ≡ 1 = kind_of 1 Number b bs (first_class Identifier b bs x) y in omega arith)
same_kind Identifier Local b bs x y = absurd (let e : 2 ≡ 1 = kind_of 1 Local b bs (first_class Identifier b bs x) y in omega arith)
same_kind Identifier Str b bs x y = absurd (let e : 3 ≡ 1 = kind_of 1 Str b bs (first_class Identifier b bs x) y in omega arith)
same_kind Identifier Char b bs x y = absurd (let e : 4 ≡ 1 = kind_of 1 Char b bs (first_class Identifier b bs x) y in omega arith)
same_kind Identifier Punctuation b bs x y = absurd (let e : 5 ≡ 1 = kind_of 1 Punctuation b bs (first_class Identifier b bs x) y in omega arith)
same_kind Number Identifier b bs x y = absurd (let e : 1 ≡ 2 = kind_of 2 Identifier b bs (first_class Number b bs x) y in omega arith)
same_kind Number Number b bs x y = refl
same_kind Number Local b bs x y = absurd (not_both b bs x y)
same_kind Number Str b bs x y = absurd (let e : 3 ≡ 2 = kind_of 2 Str b bs (first_class Number b bs x) y in omega arith)
same_kind Number Char b bs x y = absurd (let e : 4 ≡ 2 = kind_of 2 Char b bs (first_class Number b bs x) y in omega arith)
same_kind Number Punctuation b bs x y = absurd (let e : 5 ≡ 2 = kind_of 2 Punctuation b bs (first_class Number b bs x) y in omega arith)
same_kind Local Identifier b bs x y = absurd (let e : 1 ≡ 2 = kind_of 2 Identifier b bs (first_class Local b bs x) y in omega arith)
same_kind Local Number b bs x y = absurd (not_both b bs y x)
same_kind Local Local b bs x y = refl
same_kind Local Str b bs x y = absurd (let e : 3 ≡ 2 = kind_of 2 Str b bs (first_class Local b bs x) y in omega arith)
same_kind Local Char b bs x y = absurd (let e : 4 ≡ 2 = kind_of 2 Char b bs (first_class Local b bs x) y in omega arith)
same_kind Local Punctuation b bs x y = absurd (let e : 5 ≡ 2 = kind_of 2 Punctuation b bs (first_class Local b bs x) y in omega arith)
same_kind Str Identifier b bs x y = absurd (let e : 1 ≡ 3 = kind_of 3 Identifier b bs (first_class Str b bs x) y in omega arith)
same_kind Str Number b bs x y = absurd (let e : 2 ≡ 3 = kind_of 3 Number b bs (first_class Str b bs x) y in omega arith)
same_kind Str Local b bs x y = absurd (let e : 2 ≡ 3 = kind_of 3 Local b bs (first_class Str b bs x) y in omega arith)
same_kind Str Str b bs x y = refl
same_kind Str Char b bs x y = absurd (let e : 4 ≡ 3 = kind_of 3 Char b bs (first_class Str b bs x) y in omega arith)
same_kind Str Punctuation b bs x y = absurd (let e : 5 ≡ 3 = kind_of 3 Punctuation b bs (first_class Str b bs x) y in omega arith)
same_kind Char Identifier b bs x y = absurd (let e : 1 ≡ 4 = kind_of 4 Identifier b bs (first_class Char b bs x) y in omega arith)
same_kind Char Number b bs x y = absurd (let e : 2 ≡ 4 = kind_of 4 Number b bs (first_class Char b bs x) y in omega arith)
same_kind Char Local b bs x y = absurd (let e : 2 ≡ 4 = kind_of 4 Local b bs (first_class Char b bs x) y in omega arith)
same_kind Char Str b bs x y = absurd (let e : 3 ≡ 4 = kind_of 4 Str b bs (first_class Char b bs x) y in omega arith)
same_kind Char Char b bs x y = refl
same_kind Char Punctuation b bs x y = absurd (let e : 5 ≡ 4 = kind_of 4 Punctuation b bs (first_class Char b bs x) y in omega arith)
same_kind Punctuation Identifier b bs x y = absurd (let e : 1 ≡ 5 = kind_of 5 Identifier b bs (first_class Punctuation b bs x) y in omega arith)
same_kind Punctuation Number b bs x y = absurd (let e : 2 ≡ 5 = kind_of 5 Number b bs (first_class Punctuation b bs x) y in omega arith)
same_kind Punctuation Local b bs x y = absurd (let e : 2 ≡ 5 = kind_of 5 Local b bs (first_class Punctuation b bs x) y in omega arith)
same_kind Punctuation Str b bs x y = absurd (let e : 3 ≡ 5 = kind_of 5 Str b bs (first_class Punctuation b bs x) y in omega arith)
same_kind Punctuation Char b bs x y = absurd (let e : 4 ≡ 5 = kind_of 5 Char b bs (first_class Punctuation b bs x) y in omega arith)
same_kind Punctuation Punctuation b bs x y = refl

-- no token is a run that is wrong
token_in_run : (kind : TokenKind) (b n m : ℕ) (bs : List ℕ) → suc n ≤ length (b ∷ bs) → IsOfKind kind (b ∷ take n bs) → EndsRun kind (drop n bs) → IsBadNumber m b bs → ⊥
token_in_run Identifier b n m bs fits is ends bad =
    absurd (let e : 1 ≡ 2 = kind_of 2 Identifier b (take n bs) (digit_class b bad.digit) is in omega arith)
token_in_run Number b n m bs fits is ends bad =
    let whole = run_is (b ∷ bs) (suc n) fits (number_alphanumeric (b ∷ take n bs) is) ends in
    let e : m ≡ suc n = bad.run ∙ whole in
    both_ways (is_some (number_of (take (suc n) (b ∷ bs)))) (subst (λ m. is_some (number_of (take m (b ∷ bs))) ≡ false) e bad.no_number) is
token_in_run Local b n m bs fits is ends bad =
    let whole = run_is (b ∷ bs) (suc n) fits (local_alphanumeric (b ∷ take n bs) is) ends in
    let e : m ≡ suc n = bad.run ∙ whole in
    both_ways (is_local (take (suc n) (b ∷ bs))) (subst (λ m. is_local (take m (b ∷ bs)) ≡ false) e bad.no_local) is
token_in_run Str b n m bs fits is ends bad =
    absurd (let e : 3 ≡ 2 = kind_of 2 Str b (take n bs) (digit_class b bad.digit) is in omega arith)
token_in_run Char b n m bs fits is ends bad =
    absurd (let e : 4 ≡ 2 = kind_of 2 Char b (take n bs) (digit_class b bad.digit) is in omega arith)
token_in_run Punctuation b n m bs fits is ends bad =
    absurd (let e : 5 ≡ 2 = kind_of 2 Punctuation b (take n bs) (digit_class b bad.digit) is in omega arith)

-- the class of whitespace, and of what begins a comment
whitespace_class : (b : ℕ) → is_whitespace b ≡ true → class_of b ≡ 0
whitespace_class b h =
    ⊎_elim
    (λ (first : (b == 0x09 || b == 0x0C || b == 0x0D) ≡ true). ⊎_elim
    (λ (tabs : (b == 0x09 || b == 0x0C) ≡ true). ⊎_elim
    (λ (tab : (b == 0x09) ≡ true). let e = eqb-true b 0x09 tab in rw e refl)
    (λ (feed : (b == 0x0C) ≡ true). let e = eqb-true b 0x0C feed in rw e refl)
    (or_cases _ _ tabs))
    (λ (return : (b == 0x0D) ≡ true). let e = eqb-true b 0x0D return in rw e refl)
    (or_cases _ _ first))
    (λ (space : (b == 0x20) ≡ true). let e = eqb-true b 0x20 space in rw e refl)
    (or_cases _ _ h)

slash_class : (b : ℕ) (bs : List ℕ) → begins 0x2F 0x2F (b ∷ bs) ≡ true → class_of b ≡ 5
slash_class b [] h = absurd cc
slash_class b (c ∷ cs) h = let e = eqb-true b 0x2F (and_parts _ _ h).0 in rw e refl

comment_class : (b : ℕ) (bs : List ℕ) → begins_comment (b ∷ bs) ≡ true → class_of b ≡ 5
comment_class b bs h =
    ⊎_elim
    (λ (hash : (b == 0x23) ≡ true). let e = eqb-true b 0x23 hash in rw e refl)
    (λ slashes. slash_class b bs slashes)
    (or_cases _ _ h)

quote_class : (b : ℕ) → (b == 0x22 || b == 0x27) ≡ true → 3 ≤ class_of b
quote_class b h =
    ⊎_elim
    (λ (quote : (b == 0x22) ≡ true). let e = eqb-true b 0x22 quote in let own : class_of b ≡ 3 = rw e refl in omega arith)
    (λ (apostrophe : (b == 0x27) ≡ true). let e = eqb-true b 0x27 apostrophe in let own : class_of b ≡ 4 = rw e refl in omega arith)
    (or_cases _ _ h)

some_class : (kind : TokenKind) → 1 ≤ class_of_kind kind
some_class Identifier = omega arith
some_class Number = omega arith
some_class Local = omega arith
some_class Str = omega arith
some_class Char = omega arith
some_class Punctuation = omega arith

-- no token begins with whitespace
no_whitespace_token : (kind : TokenKind) (b n : ℕ) (bs : List ℕ) → is_whitespace b ≡ true → IsOfKind kind (take n (b ∷ bs)) → ⊥
no_whitespace_token kind b zero bs h is = is
no_whitespace_token kind b (suc n) bs h is =
    absurd (omega (arith, first_class kind b (take n bs) is, whitespace_class b h, some_class kind))

digit_of : (b : ℕ) → is_ascii_digit b ≡ true → is_digit b 10 ≡ true
digit_of b h = grind (arith, nat_tests)

digit_small : (b : ℕ) → is_ascii_digit b ≡ true → nat_lt (0 * 10 + digit_value b) (2 ^ 63) ≡ true
digit_small b h = grind (arith, nat_tests)

-- a digit alone is a number
digit_alone : (b : ℕ) → is_ascii_digit b ≡ true → IsOfKind Number (b ∷ [])
digit_alone b digit =
    ⊎_elim
    (λ (null : (b == 0x30) ≡ true). let e = eqb-true b 0x30 null in rw e refl)
    (λ (other : (b == 0x30) ≡ false). rw (other, digit_of b digit, digit_small b digit) refl)
    (cases_Bool (b == 0x30))

-- nothing is wrong where a token stands
no_wrong : (number : FaultNumber) (kind : TokenKind) (b n m : ℕ) (bs : List ℕ) → n ≤ length (b ∷ bs) → IsOfKind kind (take n (b ∷ bs)) → EndsRun kind (drop n (b ∷ bs)) → IsWrong number m b bs → ⊥
no_wrong number kind b zero m bs fits is ends bad = is
no_wrong BadByte kind b (suc n) m bs fits is ends bad = bad.no_token (suc n) kind (omega arith) fits is
no_wrong BadNumber kind b (suc n) m bs fits is ends bad = token_in_run kind b n m bs fits is ends bad
no_wrong BadString kind b (suc n) m bs fits is ends bad = bad.no_token (suc n) kind (omega arith) fits is
no_wrong _ kind b (suc n) m bs fits is ends bad = bad

-- two lengths of tokens that are both longest
same_length : (x y : TokenKind) (n m b : ℕ) (bs : List ℕ) → IsLexeme x n b bs → IsLexeme y m b bs → n ≡ m
same_length x y n m b bs p q =
    ⊎_elim (λ (e : n ≡ m). e)
    (λ more. ⊎_elim
    (λ (less : n < m). absurd (p.longest m y less q.fits q.is))
    (λ (greater : m < n). absurd (q.longest n x greater p.fits p.is))
    more)
    (cases_order n m)

same_kind_at : (x y : TokenKind) (n b : ℕ) (bs : List ℕ) → IsOfKind x (take n (b ∷ bs)) → IsOfKind y (take n (b ∷ bs)) → x ≡ y
same_kind_at x y zero b bs p q = absurd p
same_kind_at x y (suc n) b bs p q = same_kind x y b (take n bs) p q

lexeme_is : (f : Prefix) (kind : TokenKind) (n b : ℕ) (bs : List ℕ) → begins_comment (b ∷ bs) ≡ false → IsLexeme kind n b bs → Stands b bs f → f ≡ Lexeme kind n
lexeme_is Whitespace kind n b bs plain p h = absurd (no_whitespace_token kind b n bs h p.is)
lexeme_is Comment kind n b bs plain p h = absurd (both_ways (begins_comment (b ∷ bs)) plain h)
lexeme_is (Lexeme other m) kind n b bs plain p h =
    let length = same_length other kind m n b bs h.1 p in
    let is = subst (λ m. IsOfKind other (take m (b ∷ bs))) length h.1.is in
    let kinds = same_kind_at other kind n b bs is p.is in
    rw (length, kinds) refl
lexeme_is (Wrong number m) kind n b bs plain p h = absurd (no_wrong number kind b n m bs p.fits p.is p.ends h.1)

-- whitespace is not wrong
no_whitespace_wrong : (number : FaultNumber) (b n : ℕ) (bs : List ℕ) → is_whitespace b ≡ true → IsWrong number n b bs → ⊥
no_whitespace_wrong BadByte b n bs h bad = both_ways (is_whitespace b) bad.no_whitespace h
no_whitespace_wrong BadNumber b n bs h bad = absurd (omega (arith, whitespace_class b h, digit_class b bad.digit))
no_whitespace_wrong BadString b n bs h bad = absurd (omega (arith, whitespace_class b h, quote_class b bad.quote))
no_whitespace_wrong _ b n bs h bad = bad

digit_and_quote : (b : ℕ) → is_ascii_digit b ≡ true → (b == 0x22 || b == 0x27) ≡ true → ⊥
digit_and_quote b digit quote = absurd (omega (arith, digit_class b digit, quote_class b quote))

same_wrong : (x y : FaultNumber) (n m b : ℕ) (bs : List ℕ) → IsWrong x n b bs → IsWrong y m b bs → (x ≡ y) × (n ≡ m)
same_wrong BadByte BadByte n m b bs p q = (refl, p.one ∙ sym q.one)
same_wrong BadByte BadNumber n m b bs p q = absurd (p.no_token 1 Number (omega arith) (omega arith) (digit_alone b q.digit))
same_wrong BadByte BadString n m b bs p q = absurd (both_ways (b == 0x22 || b == 0x27) p.no_quote q.quote)
same_wrong BadByte _ n m b bs p q = absurd q
same_wrong BadNumber BadByte n m b bs p q = absurd (q.no_token 1 Number (omega arith) (omega arith) (digit_alone b p.digit))
same_wrong BadNumber BadNumber n m b bs p q = (refl, p.run ∙ sym q.run)
same_wrong BadNumber BadString n m b bs p q = absurd (digit_and_quote b p.digit q.quote)
same_wrong BadNumber _ n m b bs p q = absurd q
same_wrong BadString BadByte n m b bs p q = absurd (both_ways (b == 0x22 || b == 0x27) q.no_quote p.quote)
same_wrong BadString BadNumber n m b bs p q = absurd (digit_and_quote b q.digit p.quote)
same_wrong BadString BadString n m b bs p q = (refl, p.all ∙ sym q.all)
same_wrong BadString _ n m b bs p q = absurd q
same_wrong _ y n m b bs p q = absurd p

wrong_is : (f : Prefix) (number : FaultNumber) (n b : ℕ) (bs : List ℕ) → begins_comment (b ∷ bs) ≡ false → IsWrong number n b bs → Stands b bs f → f ≡ Wrong number n
wrong_is Whitespace number n b bs plain bad h = absurd (no_whitespace_wrong number b n bs h bad)
wrong_is Comment number n b bs plain bad h = absurd (both_ways (begins_comment (b ∷ bs)) plain h)
wrong_is (Lexeme kind m) number n b bs plain bad h = absurd (no_wrong number kind b m n bs h.1.fits h.1.is h.1.ends bad)
wrong_is (Wrong other m) number n b bs plain bad h =
    let same = same_wrong other number m n b bs h.1 bad in rw (same.0, same.1) refl

-- what a derivation says of its first bytes is what stands there
abbrev after_prefix : ℕ → List ℕ → Prefix → Lexed
after_prefix at bs f = with_rest f at (λ taken. tokens_from (at + 1) taken bs)

comment_only : (at : ℕ) (bs : List ℕ) → begins_comment bs ≡ true → tokens_from at 0 bs ≡ record { tokens = []; fault = None }
comment_only at [] h = refl
comment_only at (b ∷ bs) h =
    ⊎_elim
    (λ (whitespace : is_whitespace b ≡ true). absurd (omega (arith, whitespace_class b whitespace, comment_class b bs h)))
    (λ (other : is_whitespace b ≡ false). ap (after_prefix at bs) (cond-false (is_whitespace b) _ _ other ∙ cond-true (begins_comment (b ∷ bs)) _ _ h))
    (cases_Bool (is_whitespace b))

token_only : (at n : ℕ) (kind : TokenKind) (bs : List ℕ) (tokens : List Token) (fault : Option Fault) → n ≤ length bs → begins_comment bs ≡ false → IsOfKind kind (take n bs) → EndsRun kind (drop n bs) → IsLongest n bs → tokens_from (at + n) 0 (drop n bs) ≡ record { tokens = tokens; fault = fault } → tokens_from at 0 bs ≡ record { tokens = record { kind = kind; span = record { from = at; to = at + n } } ∷ tokens; fault = fault }
token_only at n kind [] tokens fault fits plain is ends longest next = absurd (omega (arith, some_bytes kind n [] is))
token_only at zero kind (b ∷ bs) tokens fault fits plain is ends longest next = absurd is
token_only at (suc m) kind (b ∷ bs) tokens fault fits plain is ends longest next =
    let joined : Lexed → Lexed =
    λ l. record { tokens = record { kind = kind; span = record { from = at; to = at + suc m } } ∷ l.tokens; fault = l.fault } in
    let here = lexeme_is (prefix (b ∷ bs)) kind (suc m) b bs plain (record { fits = fits; is = is; ends = ends; longest = longest }) (prefix_stands b bs) in
    let step : suc m - 1 ≡ m = omega arith in
    let place : at + 1 + m ≡ at + suc m = omega arith in
    let rest : tokens_from (at + 1) (suc m - 1) bs ≡ record { tokens = tokens; fault = fault } =
    ap (λ k. tokens_from (at + 1) k bs) step
    ∙ tokens_from-taken (at + 1) m bs (omega arith)
    ∙ ap (λ x. tokens_from x 0 (drop m bs)) place
    ∙ next in
    ap (after_prefix at bs) here ∙ ap joined rest

only_from : {at : ℕ} {bs : List ℕ} {tokens : List Token} {fault : Option Fault} → Reads at bs tokens fault → tokens_from at 0 bs ≡ record { tokens = tokens; fault = fault }
only_from (ended at) = refl
only_from (comment at bs h) = comment_only at bs h
only_from (whitespace at b bs tokens fault h more) = ap (after_prefix at bs) (cond-true (is_whitespace b) _ _ h) ∙ only_from more
only_from (token at n kind bs tokens fault fits plain is ends longest more) =
    token_only at n kind bs tokens fault fits plain is ends longest (only_from more)
only_from (wrong at n number b bs plain h) =
    ap (after_prefix at bs) (wrong_is (prefix (b ∷ bs)) number n b bs plain h (prefix_stands b bs))

pub only : (line : List ℕ) (tokens : List Token) (fault : Option Fault) → Reads 0 line tokens fault → tokens_of line ≡ record { tokens = tokens; fault = fault }
only line tokens fault h = only_from h
