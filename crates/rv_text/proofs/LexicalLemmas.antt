-- What some bytes begin with is a token of its kind and the longest, or wrong.
use Rattle.std.proofs.Common.{◌≡◌, ℕ, zero, suc, ◌+◌, ◌≤◌, Bool, true, false, not, cond, ◌&&◌, List, [], ◌∷◌, length, take, drop, Option, Some, None, ⊎_elim, sym, refl, subst, ap, ◌∙◌, arith}
use Rattle.std.specs.Prelude.{◌==◌, is_some}
use Rattle.std.specs.Char.{is_ascii_digit, is_ascii_alphanumeric}
use Rattle.std.specs.List.{list_all, prefix_len}
use Rattle.std.proofs.lemmas.Bool.{and_parts, and_from, or_cases, or_left, or_right, or_from, cond_both, eqb-true, both_ways, not_from_false}
use Rattle.std.proofs.lemmas.List.{take-append-drop, length-take-le}
use Rattle.std.proofs.lemmas.List.Sums.{prefix_len-le-length}
use Rattle.rv_text.specs.declared.faults.FaultNumber.TheVariants.{BadNumber}
use Rattle.rv_text.specs.declared.lexeme.TokenKind.{TokenKind}
use Rattle.rv_text.specs.declared.lexeme.TokenKind.TheVariants.{Identifier, Number, Local, Str, Char, Punctuation}
use Rattle.rv_text.specs.declared.lexeme.Prefix.{Prefix}
use Rattle.rv_text.specs.declared.lexeme.Prefix.TheVariants.{Whitespace, Comment, Lexeme, Wrong}
use Rattle.rv_text.specs.Bytes.{is_whitespace, is_identifier_start, is_identifier_byte, is_punctuation_byte}
use Rattle.rv_text.specs.Lexing.{begins_comment, begins_shift, quoted, prefix}
use Rattle.rv_text.specs.Lexical.{IsOfKind, IsLongest, EndsRun, goes_on, IsWrong}
use Rattle.rv_text.specs.Numbers.{number_of, is_local}
use Rattle.rv_text.specs.Strings.{string_len, char_len}
use Rattle.rv_text.proofs.ByteClasses.{run_longest, run_all, run_ends, run_more, digit_is_alphanumeric, local_alphanumeric, class_of, class_of_kind, start_class, digit_class, first_class}
use Rattle.rv_text.specs.NumberLaws.{number_alphanumeric}
use Rattle.rv_text.proofs.QuotedLemmas.{string_sound, string_complete, character_sound, character_complete}

-- a token that begins with a byte of a class is of a kind of that class
pub kind_of : (c : ℕ) (kind : TokenKind) (b : ℕ) (bs : List ℕ) → class_of b ≡ c → IsOfKind kind (b ∷ bs) → class_of_kind kind ≡ c
kind_of c kind b bs own text = sym (first_class kind b bs text) ∙ own

start_in_identifier : (b : ℕ) → is_identifier_start b ≡ true → is_identifier_byte b ≡ true
start_in_identifier b h = or_left _ _ h

identifier_longest : (b : ℕ) (bs : List ℕ) → is_identifier_start b ≡ true → IsLongest (prefix_len is_identifier_byte (b ∷ bs)) (b ∷ bs)
identifier_longest b bs start zero kind more fits text = text
identifier_longest b bs start (suc k) Identifier more fits text =
    run_longest is_identifier_byte (b ∷ bs) (suc k) more fits (and_from (is_identifier_byte b) (list_all is_identifier_byte (take k bs)) (start_in_identifier b start) (and_parts (is_identifier_start b) (list_all is_identifier_byte (take k bs)) text).1)
identifier_longest b bs start (suc k) Number more fits text =
    absurd (let e : 2 ≡ 1 = kind_of 1 Number b (take k bs) (start_class b start) text in omega arith)
identifier_longest b bs start (suc k) Local more fits text =
    absurd (let e : 2 ≡ 1 = kind_of 1 Local b (take k bs) (start_class b start) text in omega arith)
identifier_longest b bs start (suc k) Str more fits text =
    absurd (let e : 3 ≡ 1 = kind_of 1 Str b (take k bs) (start_class b start) text in omega arith)
identifier_longest b bs start (suc k) Char more fits text =
    absurd (let e : 4 ≡ 1 = kind_of 1 Char b (take k bs) (start_class b start) text in omega arith)
identifier_longest b bs start (suc k) Punctuation more fits text =
    absurd (let e : 5 ≡ 1 = kind_of 1 Punctuation b (take k bs) (start_class b start) text in omega arith)

run_is_longest : (b : ℕ) (bs : List ℕ) → is_ascii_digit b ≡ true → IsLongest (prefix_len is_ascii_alphanumeric (b ∷ bs)) (b ∷ bs)
run_is_longest b bs digit zero kind more fits text = text
run_is_longest b bs digit (suc k) Number more fits text =
    run_longest is_ascii_alphanumeric (b ∷ bs) (suc k) more fits (number_alphanumeric (b ∷ take k bs) text)
run_is_longest b bs digit (suc k) Local more fits text =
    run_longest is_ascii_alphanumeric (b ∷ bs) (suc k) more fits (local_alphanumeric (b ∷ take k bs) text)
run_is_longest b bs digit (suc k) Identifier more fits text =
    absurd (let e : 1 ≡ 2 = kind_of 2 Identifier b (take k bs) (digit_class b digit) text in omega arith)
run_is_longest b bs digit (suc k) Str more fits text =
    absurd (let e : 3 ≡ 2 = kind_of 2 Str b (take k bs) (digit_class b digit) text in omega arith)
run_is_longest b bs digit (suc k) Char more fits text =
    absurd (let e : 4 ≡ 2 = kind_of 2 Char b (take k bs) (digit_class b digit) text in omega arith)
run_is_longest b bs digit (suc k) Punctuation more fits text =
    absurd (let e : 5 ≡ 2 = kind_of 2 Punctuation b (take k bs) (digit_class b digit) text in omega arith)

-- how long a string and a character are
string_size : (k b : ℕ) (bs : List ℕ) → k ≤ length bs → IsOfKind Str (b ∷ take k bs) → string_len 0 bs ≡ Some k
string_size k b bs fits text =
    subst (λ xs. string_len 0 xs ≡ Some k) (take-append-drop k bs) (string_complete (drop k bs) text.1 ∙ ap Some (length-take-le k bs fits))

character_size : (k b : ℕ) (bs : List ℕ) → k ≤ length bs → IsOfKind Char (b ∷ take k bs) → char_len bs ≡ Some k
character_size zero b bs fits text = absurd text
character_size (suc k) b [] fits text = absurd (omega arith)
character_size (suc k) b (c ∷ cs) fits text =
    let size : length (c ∷ take k cs) ≡ suc k = omega (arith, length-take-le k cs (omega arith)) in
    subst (λ xs. char_len (c ∷ xs) ≡ Some (suc k)) (take-append-drop k cs) (character_complete c (take k cs) (drop k cs) text.1 ∙ ap Some size)

string_longest : (b n : ℕ) (bs : List ℕ) → class_of b ≡ 3 → string_len 0 bs ≡ Some n → IsLongest (n + 1) (b ∷ bs)
string_longest b n bs own len zero kind more fits text = text
string_longest b n bs own len (suc k) Str more fits text =
    absurd (let e : Some n ≡ Some k = sym len ∙ string_size k b bs (omega arith) text in let same : n ≡ k = cc in omega arith)
string_longest b n bs own len (suc k) Identifier more fits text =
    absurd (let e : 1 ≡ 3 = kind_of 3 Identifier b (take k bs) own text in omega arith)
string_longest b n bs own len (suc k) Number more fits text =
    absurd (let e : 2 ≡ 3 = kind_of 3 Number b (take k bs) own text in omega arith)
string_longest b n bs own len (suc k) Local more fits text =
    absurd (let e : 2 ≡ 3 = kind_of 3 Local b (take k bs) own text in omega arith)
string_longest b n bs own len (suc k) Char more fits text =
    absurd (let e : 4 ≡ 3 = kind_of 3 Char b (take k bs) own text in omega arith)
string_longest b n bs own len (suc k) Punctuation more fits text =
    absurd (let e : 5 ≡ 3 = kind_of 3 Punctuation b (take k bs) own text in omega arith)

no_string : (b : ℕ) (bs : List ℕ) → class_of b ≡ 3 → string_len 0 bs ≡ None → IsLongest 0 (b ∷ bs)
no_string b bs own len zero kind more fits text = text
no_string b bs own len (suc k) Str more fits text =
    absurd (let e : None ≡ Some k = sym len ∙ string_size k b bs (omega arith) text in cc)
no_string b bs own len (suc k) Identifier more fits text =
    absurd (let e : 1 ≡ 3 = kind_of 3 Identifier b (take k bs) own text in omega arith)
no_string b bs own len (suc k) Number more fits text =
    absurd (let e : 2 ≡ 3 = kind_of 3 Number b (take k bs) own text in omega arith)
no_string b bs own len (suc k) Local more fits text =
    absurd (let e : 2 ≡ 3 = kind_of 3 Local b (take k bs) own text in omega arith)
no_string b bs own len (suc k) Char more fits text =
    absurd (let e : 4 ≡ 3 = kind_of 3 Char b (take k bs) own text in omega arith)
no_string b bs own len (suc k) Punctuation more fits text =
    absurd (let e : 5 ≡ 3 = kind_of 3 Punctuation b (take k bs) own text in omega arith)

character_longest : (b n : ℕ) (bs : List ℕ) → class_of b ≡ 4 → char_len bs ≡ Some n → IsLongest (n + 1) (b ∷ bs)
character_longest b n bs own len zero kind more fits text = text
character_longest b n bs own len (suc k) Char more fits text =
    absurd (let e : Some n ≡ Some k = sym len ∙ character_size k b bs (omega arith) text in let same : n ≡ k = cc in omega arith)
character_longest b n bs own len (suc k) Identifier more fits text =
    absurd (let e : 1 ≡ 4 = kind_of 4 Identifier b (take k bs) own text in omega arith)
character_longest b n bs own len (suc k) Number more fits text =
    absurd (let e : 2 ≡ 4 = kind_of 4 Number b (take k bs) own text in omega arith)
character_longest b n bs own len (suc k) Local more fits text =
    absurd (let e : 2 ≡ 4 = kind_of 4 Local b (take k bs) own text in omega arith)
character_longest b n bs own len (suc k) Str more fits text =
    absurd (let e : 3 ≡ 4 = kind_of 4 Str b (take k bs) own text in omega arith)
character_longest b n bs own len (suc k) Punctuation more fits text =
    absurd (let e : 5 ≡ 4 = kind_of 4 Punctuation b (take k bs) own text in omega arith)

no_character : (b : ℕ) (bs : List ℕ) → class_of b ≡ 4 → char_len bs ≡ None → IsLongest 0 (b ∷ bs)
no_character b bs own len zero kind more fits text = text
no_character b bs own len (suc k) Char more fits text =
    absurd (let e : None ≡ Some k = sym len ∙ character_size k b bs (omega arith) text in cc)
no_character b bs own len (suc k) Identifier more fits text =
    absurd (let e : 1 ≡ 4 = kind_of 4 Identifier b (take k bs) own text in omega arith)
no_character b bs own len (suc k) Number more fits text =
    absurd (let e : 2 ≡ 4 = kind_of 4 Number b (take k bs) own text in omega arith)
no_character b bs own len (suc k) Local more fits text =
    absurd (let e : 2 ≡ 4 = kind_of 4 Local b (take k bs) own text in omega arith)
no_character b bs own len (suc k) Str more fits text =
    absurd (let e : 3 ≡ 4 = kind_of 4 Str b (take k bs) own text in omega arith)
no_character b bs own len (suc k) Punctuation more fits text =
    absurd (let e : 5 ≡ 4 = kind_of 4 Punctuation b (take k bs) own text in omega arith)

-- no sign has three bytes, and one of two bytes is `<<` or `>>`
punctuation_longest_two : (b : ℕ) (bs : List ℕ) → class_of b ≡ 5 → IsLongest 2 (b ∷ bs)
punctuation_longest_two b bs own zero kind more fits text = text
punctuation_longest_two b [] own (suc k) kind more fits text = absurd (omega arith)
punctuation_longest_two b (c ∷ []) own (suc k) kind more fits text = absurd (omega arith)
punctuation_longest_two b (c ∷ d ∷ ds) own (suc zero) kind more fits text = absurd (omega arith)
punctuation_longest_two b (c ∷ d ∷ ds) own (suc (suc zero)) kind more fits text = absurd (omega arith)
punctuation_longest_two b (c ∷ d ∷ ds) own (suc (suc (suc k))) Punctuation more fits text = absurd cc
punctuation_longest_two b (c ∷ d ∷ ds) own (suc (suc (suc k))) Identifier more fits text =
    absurd (let e : 1 ≡ 5 = kind_of 5 Identifier b (c ∷ d ∷ take k ds) own text in omega arith)
punctuation_longest_two b (c ∷ d ∷ ds) own (suc (suc (suc k))) Number more fits text =
    absurd (let e : 2 ≡ 5 = kind_of 5 Number b (c ∷ d ∷ take k ds) own text in omega arith)
punctuation_longest_two b (c ∷ d ∷ ds) own (suc (suc (suc k))) Local more fits text =
    absurd (let e : 2 ≡ 5 = kind_of 5 Local b (c ∷ d ∷ take k ds) own text in omega arith)
punctuation_longest_two b (c ∷ d ∷ ds) own (suc (suc (suc k))) Str more fits text =
    absurd (let e : 3 ≡ 5 = kind_of 5 Str b (c ∷ d ∷ take k ds) own text in omega arith)
punctuation_longest_two b (c ∷ d ∷ ds) own (suc (suc (suc k))) Char more fits text =
    absurd (let e : 4 ≡ 5 = kind_of 5 Char b (c ∷ d ∷ take k ds) own text in omega arith)

punctuation_longest_one : (b : ℕ) (bs : List ℕ) → class_of b ≡ 5 → begins_shift (b ∷ bs) ≡ false → IsLongest 1 (b ∷ bs)
punctuation_longest_one b bs own single zero kind more fits text = text
punctuation_longest_one b [] own single (suc k) kind more fits text = absurd (omega arith)
punctuation_longest_one b (c ∷ cs) own single (suc zero) kind more fits text = absurd (omega arith)
punctuation_longest_one b (c ∷ cs) own single (suc (suc zero)) Punctuation more fits text = both_ways (begins_shift (b ∷ c ∷ cs)) single text
punctuation_longest_one b (c ∷ []) own single (suc (suc (suc k))) Punctuation more fits text = absurd (omega arith)
punctuation_longest_one b (c ∷ d ∷ ds) own single (suc (suc (suc k))) Punctuation more fits text = absurd cc
punctuation_longest_one b (c ∷ cs) own single (suc (suc k)) Identifier more fits text =
    absurd (let e : 1 ≡ 5 = kind_of 5 Identifier b (c ∷ take k cs) own text in omega arith)
punctuation_longest_one b (c ∷ cs) own single (suc (suc k)) Number more fits text =
    absurd (let e : 2 ≡ 5 = kind_of 5 Number b (c ∷ take k cs) own text in omega arith)
punctuation_longest_one b (c ∷ cs) own single (suc (suc k)) Local more fits text =
    absurd (let e : 2 ≡ 5 = kind_of 5 Local b (c ∷ take k cs) own text in omega arith)
punctuation_longest_one b (c ∷ cs) own single (suc (suc k)) Str more fits text =
    absurd (let e : 3 ≡ 5 = kind_of 5 Str b (c ∷ take k cs) own text in omega arith)
punctuation_longest_one b (c ∷ cs) own single (suc (suc k)) Char more fits text =
    absurd (let e : 4 ≡ 5 = kind_of 5 Char b (c ∷ take k cs) own text in omega arith)

no_token : (b : ℕ) (bs : List ℕ) → class_of b ≡ 0 → IsLongest 0 (b ∷ bs)
no_token b bs own zero kind more fits text = text
no_token b bs own (suc k) Identifier more fits text =
    absurd (let e : 1 ≡ 0 = kind_of 0 Identifier b (take k bs) own text in omega arith)
no_token b bs own (suc k) Number more fits text =
    absurd (let e : 2 ≡ 0 = kind_of 0 Number b (take k bs) own text in omega arith)
no_token b bs own (suc k) Local more fits text =
    absurd (let e : 2 ≡ 0 = kind_of 0 Local b (take k bs) own text in omega arith)
no_token b bs own (suc k) Str more fits text =
    absurd (let e : 3 ≡ 0 = kind_of 0 Str b (take k bs) own text in omega arith)
no_token b bs own (suc k) Char more fits text =
    absurd (let e : 4 ≡ 0 = kind_of 0 Char b (take k bs) own text in omega arith)
no_token b bs own (suc k) Punctuation more fits text =
    absurd (let e : 5 ≡ 0 = kind_of 0 Punctuation b (take k bs) own text in omega arith)

-- a token with which some bytes begin, by its kind and length
pub record IsLexeme (kind : TokenKind) (n b : ℕ) (bs : List ℕ) : Type 0 where
  pub fits : n ≤ length (b ∷ bs)
  pub is : IsOfKind kind (take n (b ∷ bs))
  pub ends : EndsRun kind (drop n (b ∷ bs))
  pub longest : IsLongest n (b ∷ bs)

-- what it means that some bytes begin with this
abbrev pub Stands : ℕ → List ℕ → Prefix → Type 0
Stands b bs Whitespace = is_whitespace b ≡ true
Stands b bs Comment = begins_comment (b ∷ bs) ≡ true
Stands b bs (Lexeme kind n) = (begins_comment (b ∷ bs) ≡ false) × IsLexeme kind n b bs
Stands b bs (Wrong number n) = (begins_comment (b ∷ bs) ≡ false) × IsWrong number n b bs

-- a character that has its end
character_is : (b n : ℕ) (bs : List ℕ) → b ≡ 0x27 → char_len bs ≡ Some n → (n ≤ length bs) × IsOfKind Char (b ∷ take n bs)
character_is b n [] is some = absurd cc
character_is b n (c ∷ cs) is some =
    let found = character_sound c n cs some in
    (omega (arith, found.is, found.fits), subst (λ m. IsOfKind Char (b ∷ take m (c ∷ cs))) (sym found.is) (is, found.ends))

shift_is : (b : ℕ) (bs : List ℕ) → begins_shift (b ∷ bs) ≡ true → (2 ≤ length (b ∷ bs)) × IsOfKind Punctuation (take 2 (b ∷ bs))
shift_is b [] h = absurd cc
shift_is b (c ∷ cs) h = (omega arith, h)

shift_class : (b : ℕ) (bs : List ℕ) → begins_shift (b ∷ bs) ≡ true → class_of b ≡ 5
shift_class b [] h = absurd cc
shift_class b (c ∷ cs) h =
    ⊎_elim
    (λ (less : (b == 0x3C && c == 0x3C) ≡ true). let e = eqb-true b 0x3C (and_parts _ _ less).0 in rw e refl)
    (λ (more : (b == 0x3E && c == 0x3E) ≡ true). let e = eqb-true b 0x3E (and_parts _ _ more).0 in rw e refl)
    (or_cases _ _ h)

-- the class of a byte that begins no word, no number and is no quote
rest_class : (b : ℕ) (sign : Bool) → is_identifier_start b ≡ false → is_ascii_digit b ≡ false → (b == 0x22) ≡ false → (b == 0x27) ≡ false → is_punctuation_byte b ≡ sign → class_of b ≡ cond sign 5 0
rest_class b sign start digit quote apostrophe is = rw (is, start, digit, quote, apostrophe) refl

module _ (b : ℕ) (bs : List ℕ) (plain : begins_comment (b ∷ bs) ≡ false) where
  identifier_stands : is_identifier_start b ≡ true → Stands b bs (Lexeme Identifier (prefix_len is_identifier_byte (b ∷ bs)))
  identifier_stands start =
      let identifier = start_in_identifier b start in
      let all : list_all is_identifier_byte (take (prefix_len is_identifier_byte bs) bs) ≡ true = run_all is_identifier_byte bs in
      let size : prefix_len is_identifier_byte (b ∷ bs) ≡ suc (prefix_len is_identifier_byte bs) = run_more is_identifier_byte b bs identifier in (
        plain,
        record {
          fits = prefix_len-le-length is_identifier_byte (b ∷ bs);
          is = rw size (and_from (is_identifier_start b) (list_all is_identifier_byte (take (prefix_len is_identifier_byte bs) bs)) start all);
          ends = tt;
          longest = identifier_longest b bs start;
        },
      )

  -- the run of digits and letters
  number_is : (run m : ℕ) → run ≡ suc m → is_some (number_of (take run (b ∷ bs))) ≡ true → IsOfKind Number (take run (b ∷ bs))
  number_is run m e h = subst (λ n. IsOfKind Number (take n (b ∷ bs))) (sym e) (subst (λ n. is_some (number_of (take n (b ∷ bs))) ≡ true) e h)

  local_is : (run m : ℕ) → run ≡ suc m → is_local (take run (b ∷ bs)) ≡ true → IsOfKind Local (take run (b ∷ bs))
  local_is run m e h = subst (λ n. IsOfKind Local (take n (b ∷ bs))) (sym e) (subst (λ n. is_local (take n (b ∷ bs)) ≡ true) e h)

  run_stands : (digit : is_ascii_digit b ≡ true) → (run : ℕ) → run ≡ prefix_len is_ascii_alphanumeric (b ∷ bs) → Stands b bs (cond (is_some (number_of (take run (b ∷ bs)))) (Lexeme Number run) (cond (is_local (take run (b ∷ bs))) (Lexeme Local run) (Wrong BadNumber run)))
  run_stands digit run e =
      let alphanumeric = digit_is_alphanumeric b digit in
      let size : run ≡ suc (prefix_len is_ascii_alphanumeric bs) = e ∙ run_more is_ascii_alphanumeric b bs alphanumeric in
      let fits : run ≤ length (b ∷ bs) = omega (arith, prefix_len-le-length is_ascii_alphanumeric (b ∷ bs)) in
      let longest = subst (λ n. IsLongest n (b ∷ bs)) (sym e) (run_is_longest b bs digit) in
      let ends = subst (λ n. goes_on (drop n (b ∷ bs)) ≡ false) (sym e) (run_ends (b ∷ bs)) in
      cond_both (is_some (number_of (take run (b ∷ bs)))) _ _ (Stands b bs)
      (λ number. (plain, record { fits = fits; is = number_is run (prefix_len is_ascii_alphanumeric bs) size number; ends = ends; longest = longest }))
      (λ no_number. cond_both (is_local (take run (b ∷ bs))) _ _ (Stands b bs)
      (λ local. (plain, record { fits = fits; is = local_is run (prefix_len is_ascii_alphanumeric bs) size local; ends = ends; longest = longest }))
      (λ no_local. (plain, record { digit = digit; run = e; no_number = no_number; no_local = no_local })))

  string_stands : (b == 0x22) ≡ true → (len : Option ℕ) → string_len 0 bs ≡ len → Stands b bs (quoted Str len (length (b ∷ bs)))
  string_stands quote None none =
      let is = eqb-true b 0x22 quote in
      let own : class_of b ≡ 3 = rw is refl in
      (plain, record { quote = or_left _ _ quote; all = refl; no_token = no_string b bs own none })
  string_stands quote (Some n) some =
      let is = eqb-true b 0x22 quote in
      let own : class_of b ≡ 3 = rw is refl in
      let closed = string_sound (length bs) n bs (omega arith) some in
      let e : suc n ≡ n + 1 = omega arith in (
        plain,
        subst (λ m. IsLexeme Str m b bs) e (record {
          fits = omega (arith, closed.fits);
          is = (is, closed.ends);
          ends = tt;
          longest = subst (λ m. IsLongest m (b ∷ bs)) (sym e) (string_longest b n bs own some);
        }),
      )

  character_stands : (b == 0x27) ≡ true → (len : Option ℕ) → char_len bs ≡ len → Stands b bs (quoted Char len (length (b ∷ bs)))
  character_stands quote None none =
      let is = eqb-true b 0x27 quote in
      let own : class_of b ≡ 4 = rw is refl in
      (plain, record { quote = or_right _ _ quote; all = refl; no_token = no_character b bs own none })
  character_stands quote (Some n) some =
      let is = eqb-true b 0x27 quote in
      let own : class_of b ≡ 4 = rw is refl in
      let e : suc n ≡ n + 1 = omega arith in
      let found = character_is b n bs is some in (
        plain,
        subst (λ m. IsLexeme Char m b bs) e (record {
          fits = omega (arith, found.0);
          is = found.1;
          ends = tt;
          longest = subst (λ m. IsLongest m (b ∷ bs)) (sym e) (character_longest b n bs own some);
        }),
      )

  shift_stands : class_of b ≡ 5 → begins_shift (b ∷ bs) ≡ true → Stands b bs (Lexeme Punctuation 2)
  shift_stands own shift =
      let two = shift_is b bs shift in
      (plain, record { fits = two.0; is = two.1; ends = tt; longest = punctuation_longest_two b bs own })

  punctuation_stands : is_identifier_start b ≡ false → is_ascii_digit b ≡ false → class_of b ≡ 5 → begins_shift (b ∷ bs) ≡ false → is_punctuation_byte b ≡ true → Stands b bs (Lexeme Punctuation 1)
  punctuation_stands start digit own single sign = (
    plain,
    record {
      fits = omega arith;
      is = and_from (is_punctuation_byte b && not (is_identifier_start b)) (not (is_ascii_digit b)) (and_from (is_punctuation_byte b) (not (is_identifier_start b)) sign (not_from_false _ start)) (not_from_false _ digit);
      ends = tt;
      longest = punctuation_longest_one b bs own single;
    },
  )

-- what some bytes begin with, as it is found
pub prefix_stands : (b : ℕ) (bs : List ℕ) → Stands b bs (prefix (b ∷ bs))
prefix_stands b bs =
    cond_both (is_whitespace b) _ _ (Stands b bs) (λ whitespace. whitespace)
    (λ no_whitespace. cond_both (begins_comment (b ∷ bs)) _ _ (Stands b bs) (λ comment. comment)
    (λ plain. cond_both (is_identifier_start b) _ _ (Stands b bs) (λ start. identifier_stands b bs plain start)
    (λ no_start. cond_both (is_ascii_digit b) _ _ (Stands b bs) (λ digit. run_stands b bs plain digit (prefix_len is_ascii_alphanumeric (b ∷ bs)) refl)
    (λ no_digit. cond_both (b == 0x22) _ _ (Stands b bs) (λ quote. string_stands b bs plain quote (string_len 0 bs) refl)
    (λ no_quote. cond_both (b == 0x27) _ _ (Stands b bs) (λ quote. character_stands b bs plain quote (char_len bs) refl)
    (λ no_apostrophe.
    cond_both (begins_shift (b ∷ bs)) _ _ (Stands b bs)
    (λ shift. shift_stands b bs plain (shift_class b bs shift) shift)
    (λ single. cond_both (is_punctuation_byte b) _ _ (Stands b bs)
    (λ sign. punctuation_stands b bs plain no_start no_digit (rest_class b true no_start no_digit no_quote no_apostrophe sign) single sign)
    (λ no_punctuation. (plain, record { one = refl; no_whitespace = no_whitespace; no_quote = or_from _ _ no_quote no_apostrophe; no_token = no_token b bs (rest_class b false no_start no_digit no_quote no_apostrophe no_punctuation) })))))))))
