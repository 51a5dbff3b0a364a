-- The tokens of a text that is put together from them.
use Rattle.std.proofs.Common.{◌≡◌, ℕ, suc, ◌+◌, ◌-◌, Bool, true, false, not, ◌&&◌, ◌||◌, List, [], ◌∷◌, ◌++◌, length, take, drop, map, None, sym, refl, ap, ◌∙◌, subst, arith, ⊎_elim, length-append, drop-drop}
use Rattle.std.specs.Prelude.{◌==◌, is_some}
use Rattle.std.specs.List.{list_all, prefix_len}
use Rattle.std.specs.Char.{is_ascii_digit, is_ascii_alphanumeric}
use Rattle.std.proofs.lemmas.Bool.{and_parts, or_cases, cond-true, cond-false, eqb-true, not-true}
use Rattle.std.proofs.lemmas.Bool.Decides.{nat_tests}
use Rattle.rv_text.specs.declared.lexeme.TokenKind.{TokenKind}
use Rattle.rv_text.specs.declared.lexeme.TokenKind.TheVariants.{Identifier, Number, Local, Str, Char, Punctuation}
use Rattle.rv_text.specs.declared.lexeme.Token.{Token}
use Rattle.rv_text.specs.declared.lexeme.Prefix.TheVariants.{Lexeme}
use Rattle.rv_text.specs.Bytes.{is_whitespace, is_identifier_start, is_identifier_byte}
use Rattle.rv_text.specs.Lexing.{Lexed, SpelledToken, prefix, with_rest, begins_comment, numeral, tokens_from, lexed_line, spelled_tokens, text_at}
use Rattle.rv_text.specs.Lexical.{is_identifier}
use Rattle.rv_text.specs.Numbers.{number_of}
use Rattle.rv_text.specs.NumberLaws.{number_alphanumeric, number_first, digit_no_start}
use Rattle.rv_text.specs.TokenLaws.{tokens_from-taken}

-- a piece of such a text: one space, or a token with its spelling
pub data Piece : Type 0 where
  Space : Piece
  Spelled : TokenKind → List ℕ → Piece

-- the text that some pieces are
abbrev pub spelling : List Piece → List ℕ
spelling [] = []
spelling (Space ∷ ps) = 0x20 ∷ spelling ps
spelling (Spelled kind text ∷ ps) = text ++ spelling ps

-- the tokens from a place on, with their texts
abbrev pub spelled_tokens_at : ℕ → List Piece → List SpelledToken
spelled_tokens_at at [] = []
spelled_tokens_at at (Space ∷ ps) = spelled_tokens_at (at + 1) ps
spelled_tokens_at at (Spelled kind text ∷ ps) =
    record { kind = kind; text = text; span = record { from = at; to = at + length text } }
    ∷ spelled_tokens_at (at + length text) ps

-- the same without their texts
abbrev pub tokens_at : ℕ → List Piece → List Token
tokens_at at [] = []
tokens_at at (Space ∷ ps) = tokens_at (at + 1) ps
tokens_at at (Spelled kind text ∷ ps) =
    record { kind = kind; span = record { from = at; to = at + length text } } ∷ tokens_at (at + length text) ps

-- `,`, `(`, `)` and `-`
abbrev pub is_plain_punctuation : List ℕ → Bool
is_plain_punctuation [] = false
is_plain_punctuation (b ∷ []) = b == 0x2C || b == 0x28 || b == 0x29 || b == 0x2D
is_plain_punctuation (b ∷ c ∷ bs) = false

-- an identifier, a number or one of the four signs
abbrev pub is_plain_token : TokenKind → List ℕ → Bool
is_plain_token Identifier text = is_identifier text
is_plain_token Number text = is_some (number_of text)
is_plain_token Punctuation text = is_plain_punctuation text
is_plain_token Local text = false
is_plain_token Str text = false
is_plain_token Char text = false

-- no identifier and no number stands first
abbrev pub begins_apart : List Piece → Bool
begins_apart [] = true
begins_apart (Space ∷ ps) = true
begins_apart (Spelled Punctuation text ∷ ps) = true
begins_apart (Spelled kind text ∷ ps) = false

-- a sign may stand before anything
abbrev pub may_precede : TokenKind → List Piece → Bool
may_precede Punctuation ps = true
may_precede kind ps = begins_apart ps

-- tokens of the three kinds; no two identifiers or numbers touch
abbrev pub are_plain_tokens : List Piece → Bool
are_plain_tokens [] = true
are_plain_tokens (Space ∷ ps) = are_plain_tokens ps
are_plain_tokens (Spelled kind text ∷ ps) = is_plain_token kind text && may_precede kind ps && are_plain_tokens ps

-- Each token is the longest that begins where it stands.

-- the first byte is not of the class
abbrev pub stops : (ℕ → Bool) → List ℕ → Bool
stops p [] = true
stops p (b ∷ bs) = not (p b)

run_stops : (p : ℕ → Bool) (text rest : List ℕ) → list_all p text ≡ true → stops p rest ≡ true → prefix_len p (text ++ rest) ≡ length text
run_stops p [] [] all stop = refl
run_stops p [] (b ∷ bs) all stop = rw (not-true (p b) stop) refl
run_stops p (b ∷ bs) rest all stop =
    let parts = and_parts (p b) (list_all p bs) all in
    let more = run_stops p bs rest parts.1 stop in
    rw (parts.0, more) (omega arith)

take_text : (text rest : List ℕ) → take (length text) (text ++ rest) ≡ text
take_text [] rest = refl
take_text (b ∷ bs) rest = ap (λ bs. b ∷ bs) (take_text bs rest)

drop_text : (text rest : List ℕ) → drop (length text) (text ++ rest) ≡ rest
drop_text [] rest = refl
drop_text (b ∷ bs) rest = drop_text bs rest

start_no_whitespace : (b : ℕ) → is_identifier_start b ≡ true → is_whitespace b ≡ false
start_no_whitespace b h = grind (arith, nat_tests)

digit_no_whitespace : (b : ℕ) → is_ascii_digit b ≡ true → is_whitespace b ≡ false
digit_no_whitespace b h = grind (arith, nat_tests)

-- `#` and `/` begin no identifier and no number
not_comment : (b : ℕ) (bs : List ℕ) → (b == 0x23) ≡ false → (b == 0x2F) ≡ false → begins_comment (b ∷ bs) ≡ false
not_comment b [] hash slash = rw hash refl
not_comment b (c ∷ cs) hash slash = rw (hash, slash) refl

start_no_hash : (b : ℕ) → is_identifier_start b ≡ true → (b == 0x23) ≡ false
start_no_hash b h = grind (arith, nat_tests)

start_no_slash : (b : ℕ) → is_identifier_start b ≡ true → (b == 0x2F) ≡ false
start_no_slash b h = grind (arith, nat_tests)

digit_no_hash : (b : ℕ) → is_ascii_digit b ≡ true → (b == 0x23) ≡ false
digit_no_hash b h = grind (arith, nat_tests)

digit_no_slash : (b : ℕ) → is_ascii_digit b ≡ true → (b == 0x2F) ≡ false
digit_no_slash b h = grind (arith, nat_tests)

identifier_prefix : (b : ℕ) (bs rest : List ℕ) → is_identifier (b ∷ bs) ≡ true → stops is_identifier_byte rest ≡ true → prefix (b ∷ (bs ++ rest)) ≡ Lexeme Identifier (length (b ∷ bs))
identifier_prefix b bs rest h stop =
    let parts = and_parts (is_identifier_start b) (list_all is_identifier_byte bs) h in
    let start = parts.0 in
    let more = run_stops is_identifier_byte bs rest parts.1 stop in
    rw (start_no_whitespace b start, not_comment b (bs ++ rest) (start_no_hash b start) (start_no_slash b start), start, more) (ap (Lexeme Identifier) (omega arith))

numeral_is : (xs text : List ℕ) (n : ℕ) → prefix_len is_ascii_alphanumeric xs ≡ n → take n xs ≡ text → is_some (number_of text) ≡ true → numeral xs ≡ Lexeme Number n
numeral_is xs text n count whole h = rw (count, whole, h) refl

digit_prefix : (b : ℕ) (xs : List ℕ) → is_ascii_digit b ≡ true → prefix (b ∷ xs) ≡ numeral (b ∷ xs)
digit_prefix b xs digit =
    cond-false (is_whitespace b) _ _ (digit_no_whitespace b digit)
    ∙ cond-false (begins_comment (b ∷ xs)) _ _ (not_comment b xs (digit_no_hash b digit) (digit_no_slash b digit))
    ∙ cond-false (is_identifier_start b) _ _ (digit_no_start b digit)
    ∙ cond-true (is_ascii_digit b) _ _ digit

number_prefix : (b : ℕ) (bs rest : List ℕ) → is_some (number_of (b ∷ bs)) ≡ true → stops is_ascii_alphanumeric rest ≡ true → prefix (b ∷ (bs ++ rest)) ≡ Lexeme Number (length (b ∷ bs))
number_prefix b bs rest h stop =
    digit_prefix b (bs ++ rest) (number_first b bs h)
    ∙ numeral_is (b ∷ (bs ++ rest)) (b ∷ bs) (length (b ∷ bs)) (run_stops is_ascii_alphanumeric (b ∷ bs) rest (number_alphanumeric (b ∷ bs) h) stop) (take_text (b ∷ bs) rest) h

-- what holds of each of the four signs
pub of_plain_punctuation : (P : ℕ → Type 0) → P 0x2C → P 0x28 → P 0x29 → P 0x2D → (b : ℕ) → is_plain_punctuation (b ∷ []) ≡ true → P b
of_plain_punctuation P comma opening closing minus b h =
    let at : (c : ℕ) → P c → (b == c) ≡ true → P b = λ c p e. subst P (sym (eqb-true b c e)) p in
    ⊎_elim
    (λ (three : (b == 0x2C || b == 0x28 || b == 0x29) ≡ true).
    ⊎_elim
    (λ (two : (b == 0x2C || b == 0x28) ≡ true). ⊎_elim (at 0x2C comma) (at 0x28 opening) (or_cases _ _ two))
    (at 0x29 closing)
    (or_cases _ _ three))
    (at 0x2D minus)
    (or_cases _ _ h)

punctuation_prefix : (b : ℕ) (rest : List ℕ) → is_plain_punctuation (b ∷ []) ≡ true → prefix (b ∷ rest) ≡ Lexeme Punctuation 1
punctuation_prefix b [] h = of_plain_punctuation (λ b. prefix (b ∷ []) ≡ Lexeme Punctuation 1) refl refl refl refl b h
punctuation_prefix b (c ∷ cs) h =
    of_plain_punctuation (λ b. prefix (b ∷ c ∷ cs) ≡ Lexeme Punctuation 1) refl refl refl refl b h

-- what stops an identifier stops a number
no_identifier_byte : (b : ℕ) → not (is_identifier_byte b) ≡ true → not (is_ascii_alphanumeric b) ≡ true
no_identifier_byte b h = grind (arith, nat_tests)

stops_number : (rest : List ℕ) → stops is_identifier_byte rest ≡ true → stops is_ascii_alphanumeric rest ≡ true
stops_number [] h = refl
stops_number (b ∷ bs) h = no_identifier_byte b h

punctuation_no_byte : (b : ℕ) → is_plain_punctuation (b ∷ []) ≡ true → not (is_identifier_byte b) ≡ true
punctuation_no_byte = of_plain_punctuation (λ b. not (is_identifier_byte b) ≡ true) refl refl refl refl

-- what is known of the first of such tokens, and of the others
pub record FirstToken (kind : TokenKind) (text : List ℕ) (ps : List Piece) : Type 0 where
  pub plain : is_plain_token kind text ≡ true
  pub precedes : may_precede kind ps ≡ true
  pub others : are_plain_tokens ps ≡ true

pub first_token : (kind : TokenKind) (text : List ℕ) (ps : List Piece) → are_plain_tokens (Spelled kind text ∷ ps) ≡ true → FirstToken kind text ps
first_token kind text ps h =
    let outer = and_parts (is_plain_token kind text && may_precede kind ps) (are_plain_tokens ps) h in
    let inner = and_parts (is_plain_token kind text) (may_precede kind ps) outer.0 in
    record { plain = inner.0; precedes = inner.1; others = outer.1 }

apart_stops : (ps : List Piece) → are_plain_tokens ps ≡ true → begins_apart ps ≡ true → stops is_identifier_byte (spelling ps) ≡ true
apart_stops [] h apart = refl
apart_stops (Space ∷ ps) h apart = refl
apart_stops (Spelled Punctuation [] ∷ ps) h apart = absurd (cc)
apart_stops (Spelled Punctuation (b ∷ []) ∷ ps) h apart = punctuation_no_byte b (first_token Punctuation (b ∷ []) ps h).plain
apart_stops (Spelled Punctuation (b ∷ c ∷ bs) ∷ ps) h apart = absurd (cc)
apart_stops (Spelled Identifier text ∷ ps) h apart = absurd (cc)
apart_stops (Spelled Number text ∷ ps) h apart = absurd (cc)
apart_stops (Spelled kind text ∷ ps) h apart = absurd (cc)

token_prefix : (kind : TokenKind) (b : ℕ) (bs : List ℕ) (ps : List Piece) → is_plain_token kind (b ∷ bs) ≡ true → may_precede kind ps ≡ true → are_plain_tokens ps ≡ true → prefix (b ∷ (bs ++ spelling ps)) ≡ Lexeme kind (length (b ∷ bs))
token_prefix Identifier b bs ps h precedes others = identifier_prefix b bs (spelling ps) h (apart_stops ps others precedes)
token_prefix Number b bs ps h precedes others =
    number_prefix b bs (spelling ps) h (stops_number (spelling ps) (apart_stops ps others precedes))
token_prefix Punctuation b [] ps h precedes others = punctuation_prefix b (spelling ps) h
token_prefix Punctuation b (c ∷ cs) ps h precedes others = absurd (cc)
token_prefix Local b bs ps h precedes others = absurd (cc)
token_prefix Str b bs ps h precedes others = absurd (cc)
token_prefix Char b bs ps h precedes others = absurd (cc)

-- so it is read, and then what follows it
token_read : (at : ℕ) (kind : TokenKind) (b : ℕ) (bs rest : List ℕ) (tokens : List Token) → prefix (b ∷ (bs ++ rest)) ≡ Lexeme kind (length (b ∷ bs)) → tokens_from (at + length (b ∷ bs)) 0 rest ≡ record { tokens = tokens; fault = None } → tokens_from at 0 (b ∷ (bs ++ rest)) ≡ record { tokens = record { kind = kind; span = record { from = at; to = at + length (b ∷ bs) } } ∷ tokens; fault = None }
token_read at kind b bs rest tokens stands next =
    let joined : Lexed → Lexed =
    λ l. record { tokens = record { kind = kind; span = record { from = at; to = at + length (b ∷ bs) } } ∷ l.tokens; fault = l.fault } in
    let step : suc (length bs) - 1 ≡ length bs = omega arith in
    let place : at + 1 + length bs ≡ at + length (b ∷ bs) = omega arith in
    let next_tokens : tokens_from (at + 1) (suc (length bs) - 1) (bs ++ rest) ≡ record { tokens = tokens; fault = None } =
    ap (λ k. tokens_from (at + 1) k (bs ++ rest)) step
    ∙ tokens_from-taken (at + 1) (length bs) (bs ++ rest) (rw length-append (omega arith))
    ∙ ap (λ xs. tokens_from (at + 1 + length bs) 0 xs) (drop_text bs rest)
    ∙ ap (λ x. tokens_from x 0 rest) place
    ∙ next in
    ap (λ f. with_rest f at (λ taken. tokens_from (at + 1) taken (bs ++ rest))) stands ∙ ap joined next_tokens

no_empty_token : (kind : TokenKind) → is_plain_token kind [] ≡ true → ⊥
no_empty_token Identifier h = absurd (cc)
no_empty_token Number h = absurd (cc)
no_empty_token Punctuation h = absurd (cc)
no_empty_token kind h = absurd (cc)

pub spelling_from : (at : ℕ) (ps : List Piece) → are_plain_tokens ps ≡ true → tokens_from at 0 (spelling ps) ≡ record { tokens = tokens_at at ps; fault = None }
spelling_from at [] h = refl
spelling_from at (Space ∷ ps) h = spelling_from (at + 1) ps h
spelling_from at (Spelled kind [] ∷ ps) h = absurd (no_empty_token kind (first_token kind [] ps h).plain)
spelling_from at (Spelled kind (b ∷ bs) ∷ ps) h =
    let first = first_token kind (b ∷ bs) ps h in
    let next = at + length (b ∷ bs) in
    token_read at kind b bs (spelling ps) (tokens_at next ps)
    (token_prefix kind b bs ps first.plain first.precedes first.others)
    (spelling_from next ps first.others)

-- a token of a line, with its text
abbrev pub spelled_token_of : List ℕ → Token → SpelledToken
spelled_token_of line t = record { kind = t.kind; text = text_at line t.span; span = t.span }

text_there : (line : List ℕ) (at : ℕ) (text rest : List ℕ) → drop at line ≡ text ++ rest → text_at line (record { from = at; to = at + length text }) ≡ text
text_there line at text rest e =
    let n : at + length text - at ≡ length text = omega arith in
    rw (n, e) (take_text text rest)

pub texts_from : (line : List ℕ) (at : ℕ) (ps : List Piece) → drop at line ≡ spelling ps → map (spelled_token_of line) (tokens_at at ps) ≡ spelled_tokens_at at ps
texts_from line at [] e = refl
texts_from line at (Space ∷ ps) e = texts_from line (at + 1) ps (sym (drop-drop 1 at line) ∙ ap (drop 1) e)
texts_from line at (Spelled kind text ∷ ps) e =
    let there = text_there line at text (spelling ps) e in
    let more = texts_from line (at + length text) ps (sym (drop-drop (length text) at line) ∙ ap (drop (length text)) e ∙ drop_text text (spelling ps)) in
    ap (λ x. record { kind = kind; text = x; span = record { from = at; to = at + length text } } ∷ map (spelled_token_of line) (tokens_at (at + length text) ps)) there
    ∙ ap (λ xs. record { kind = kind; text = text; span = record { from = at; to = at + length text } } ∷ xs) more

-- a text that is put together from tokens is read as these
pub spelling_lexed : (ps : List Piece) → are_plain_tokens ps ≡ true → lexed_line (spelling ps) ≡ record { line = spelling ps; tokens = tokens_at 0 ps; fault = None }
spelling_lexed ps h = ap (λ (l : Lexed). record { line = spelling ps; tokens = l.tokens; fault = l.fault }) (spelling_from 0 ps h)

pub spelling_tokens : (ps : List Piece) → are_plain_tokens ps ≡ true → spelled_tokens (lexed_line (spelling ps)) ≡ spelled_tokens_at 0 ps
spelling_tokens ps h = ap spelled_tokens (spelling_lexed ps h) ∙ texts_from (spelling ps) 0 ps refl
