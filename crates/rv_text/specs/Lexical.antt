-- What the tokens of a line are, apart from the way in which they are found.
use Rattle.std.specs.Prelude.{◌≡◌, ℕ, ◌+◌, ◌<◌, ◌≤◌, ◌==◌, ◌&&◌, ◌||◌, Bool, true, false, not, List, [], ◌∷◌, length, take, drop, Option, Some, None, is_some, ⊤}
use Rattle.std.specs.Char.{is_ascii_digit, is_ascii_alphanumeric}
use Rattle.std.specs.List.{list_all, prefix_len}
use Rattle.rv_text.specs.declared.faults.Fault.{Fault}
use Rattle.rv_text.specs.declared.faults.FaultNumber.{FaultNumber}
use Rattle.rv_text.specs.declared.faults.FaultNumber.TheVariants.{BadByte, BadNumber, BadString}
use Rattle.rv_text.specs.declared.lexeme.Token.{Token}
use Rattle.rv_text.specs.declared.lexeme.TokenKind.{TokenKind}
use Rattle.rv_text.specs.declared.lexeme.TokenKind.TheVariants.{Identifier, Number, Local, Str, Char, Punctuation}
use Rattle.rv_text.specs.declared.strings.Spelling.{Spelling}
use Rattle.rv_text.specs.Bytes.{is_whitespace, is_identifier_start, is_identifier_byte, is_punctuation_byte}
use Rattle.rv_text.specs.Lexing.{begins_comment}
use Rattle.rv_text.specs.Numbers.{number_of, is_local}
use Rattle.rv_text.specs.Strings.{spelled, may_stand}

-- a byte with which an identifier may begin, and then bytes of an identifier
abbrev pub is_identifier : List ℕ → Bool
is_identifier [] = false
is_identifier (b ∷ bs) = is_identifier_start b && list_all is_identifier_byte bs

-- `<<`, `>>`, or a visible byte that is no quote and begins no identifier and no number
abbrev pub is_punctuation : List ℕ → Bool
is_punctuation [] = false
is_punctuation (b ∷ []) = is_punctuation_byte b && not (is_identifier_start b) && not (is_ascii_digit b)
is_punctuation (b ∷ c ∷ []) = b == 0x3C && c == 0x3C || b == 0x3E && c == 0x3E
is_punctuation (b ∷ c ∷ d ∷ bs) = false

-- the spellings of a string's bytes, and then its closing quote
pub data EndsString : List ℕ → Type 0 where
  closing : EndsString (0x22 ∷ [])
  spelling : (b : ℕ) (bs : List ℕ) (s : Spelling) → (b == 0x22) ≡ false → spelled (b ∷ bs) ≡ Some s → EndsString (drop s.len (b ∷ bs)) → EndsString (b ∷ bs)

-- the spelling of a character's one byte, and then its closing quote
pub record EndsCharacter (b : ℕ) (bs : List ℕ) : Type 0 where
  pub stands : may_stand b ≡ true
  pub only : Spelling
  pub spells : spelled (b ∷ bs) ≡ Some only
  pub closed : drop only.len (b ∷ bs) ≡ 0x27 ∷ []

-- a text is a token of the kind
abbrev pub IsOfKind : TokenKind → List ℕ → Type 0
IsOfKind kind [] = ⊥
IsOfKind Identifier (b ∷ bs) = is_identifier (b ∷ bs) ≡ true
IsOfKind Number (b ∷ bs) = is_some (number_of (b ∷ bs)) ≡ true
IsOfKind Local (b ∷ bs) = is_local (b ∷ bs) ≡ true
IsOfKind Punctuation (b ∷ bs) = is_punctuation (b ∷ bs) ≡ true
IsOfKind Str (b ∷ bs) = (b ≡ 0x22) × EndsString bs
IsOfKind Char (b ∷ []) = ⊥
IsOfKind Char (b ∷ c ∷ bs) = (b ≡ 0x27) × EndsCharacter c bs

-- no token of any kind that begins here has more than n bytes
abbrev pub IsLongest : ℕ → List ℕ → Type 0
IsLongest n bs = (k : ℕ) (kind : TokenKind) → n < k → k ≤ length bs → IsOfKind kind (take k bs) → ⊥

-- a digit or a letter stands here
abbrev pub goes_on : List ℕ → Bool
goes_on [] = false
goes_on (b ∷ bs) = is_ascii_alphanumeric b

-- after a number and a local label stands no digit and no letter
abbrev pub EndsRun : TokenKind → List ℕ → Type 0
EndsRun Number rest = goes_on rest ≡ false
EndsRun Local rest = goes_on rest ≡ false
EndsRun Identifier rest = ⊤
EndsRun Str rest = ⊤
EndsRun Char rest = ⊤
EndsRun Punctuation rest = ⊤

-- a byte that is no whitespace and no quote, and begins no token
pub record IsBadByte (n : ℕ) (b : ℕ) (bs : List ℕ) : Type 0 where
  pub one : n ≡ 1
  pub no_whitespace : is_whitespace b ≡ false
  pub no_quote : (b == 0x22 || b == 0x27) ≡ false
  pub no_token : IsLongest 0 (b ∷ bs)

-- a digit, and the run of digits and letters that it begins, which is no number and no local label
pub record IsBadNumber (n : ℕ) (b : ℕ) (bs : List ℕ) : Type 0 where
  pub digit : is_ascii_digit b ≡ true
  pub run : n ≡ prefix_len is_ascii_alphanumeric (b ∷ bs)
  pub no_number : is_some (number_of (take n (b ∷ bs))) ≡ false
  pub no_local : is_local (take n (b ∷ bs)) ≡ false

-- a quote that begins no token, and all that is left
pub record IsBadString (n : ℕ) (b : ℕ) (bs : List ℕ) : Type 0 where
  pub quote : (b == 0x22 || b == 0x27) ≡ true
  pub all : n ≡ length (b ∷ bs)
  pub no_token : IsLongest 0 (b ∷ bs)

-- the first n bytes are wrong in this way
abbrev pub IsWrong : FaultNumber → ℕ → ℕ → List ℕ → Type 0
IsWrong BadByte n b bs = IsBadByte n b bs
IsWrong BadNumber n b bs = IsBadNumber n b bs
IsWrong BadString n b bs = IsBadString n b bs
IsWrong _ n b bs = ⊥

-- the bytes from a place on are these tokens, with nothing but whitespace before each, up to the end, a comment or a fault
pub data Reads : ℕ → List ℕ → List Token → Option Fault → Type 0 where
  ended : (at : ℕ) → Reads at [] [] None
  comment : (at : ℕ) (bs : List ℕ) → begins_comment bs ≡ true → Reads at bs [] None
  whitespace : (at b : ℕ) (bs : List ℕ) (tokens : List Token) (fault : Option Fault) → is_whitespace b ≡ true → Reads (at + 1) bs tokens fault → Reads at (b ∷ bs) tokens fault
  token : (at n : ℕ) (kind : TokenKind) (bs : List ℕ) (tokens : List Token) (fault : Option Fault) → n ≤ length bs → begins_comment bs ≡ false → IsOfKind kind (take n bs) → EndsRun kind (drop n bs) → IsLongest n bs → Reads (at + n) (drop n bs) tokens fault → Reads at bs (record { kind = kind; span = record { from = at; to = at + n } } ∷ tokens) fault
  wrong : (at n : ℕ) (number : FaultNumber) (b : ℕ) (bs : List ℕ) → begins_comment (b ∷ bs) ≡ false → IsWrong number n b bs → Reads at (b ∷ bs) [] (Some (record { number = number; span = record { from = at; to = at + n } }))

-- each span has a byte, begins where the one before it ends or later, and ends in the line
abbrev pub Rise : ℕ → ℕ → List Token → Type 0
Rise at end [] = at ≤ end
Rise at end (t ∷ ts) = (at ≤ t.span.from) × (t.span.from < t.span.to) × Rise t.span.to end ts
