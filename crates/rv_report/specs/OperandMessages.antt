-- The messages of operands that a statement does not take.
use Rattle.std.specs.Prelude.{ℕ, Bool, false, ◌==◌, ◌||◌, ◌&&◌, not, bytes_eq, is_some, List, [], ◌∷◌, ◌++◌, length, take, slice_index, codes, if◌then◌else◌}
use Rattle.std.specs.Char.{is_ascii_digit}
use Rattle.std.specs.List.{list_any}
use Rattle.rv_text.specs.declared.lexeme.Token.{Token}
use Rattle.rv_text.specs.Lexing.{lexed_line}
use Rattle.rv_ops.specs.Registers.{register_named}
use Rattle.rv_stmt.specs.Tokens.{is_punctuation_kind}
use Rattle.rv_show.specs.Parts.{part}
use Rattle.rv_show.specs.Texts.{about}
use Rattle.rv_report.specs.declared.advice.Topic.TheVariants.{NameGiven, NumberGiven, OperandGiven, RegisterLetter}
use Rattle.rv_report.specs.Advice.{advice}

-- What stands between the words of an operand

-- the first of some tokens
abbrev pub first_word : List ℕ → List Token → List ℕ
first_word line [] = []
first_word line (t ∷ ts) = part line t.span

-- a word ends a statement, or begins a comment, elsewhere
abbrev pub is_foreign : (word next : List ℕ) → Bool
is_foreign word next = bytes_eq word (codes ";") || (bytes_eq word (codes "/") && bytes_eq next (codes "*"))

-- no sign stands between a token and the next
abbrev pub is_beside_next : Token → List Token → Bool
is_beside_next t [] = false
is_beside_next t (u ∷ us) = not (is_punctuation_kind t.kind) && not (is_punctuation_kind u.kind)

unfoldable pub comment_help : List ℕ
comment_help = codes "; one statement stands on a line, and '#' or '//' begins a comment"

unfoldable pub missing_comma : List ℕ → List ℕ
missing_comma word = about (codes "; a comma is missing after ") word []

-- the first place where another statement or a comment is meant, or where a comma is missing
abbrev pub separation : List ℕ → List Token → List ℕ
separation line [] = []
separation line (t ∷ ts) =
    if is_foreign (part line t.span) (first_word line ts) then comment_help
    else (if is_beside_next t ts then missing_comma (part line t.span)
    else separation line ts)

unfoldable pub separation_of : List ℕ → List ℕ
separation_of text = separation text (lexed_line text).tokens

-- Empty operands

abbrev pub begins_number : List ℕ → Bool
begins_number [] = false
begins_number (b ∷ bs) = is_ascii_digit b || b == 0x2D

-- a '#' with a number behind it comes next
abbrev pub is_hash_number : List ℕ → Bool
is_hash_number [] = false
is_hash_number (b ∷ bs) =
    if b == 0x23 then begins_number bs else (if b == 0x20 || b == 9 then is_hash_number bs else false)

abbrev pub hash_help : List ℕ → List ℕ
hash_help rest = if is_hash_number rest then codes "; '#' begins a comment, and a number has none before it" else []

-- what is missing before the rest of a line
unfoldable pub expected : (what rest : List ℕ) → List ℕ
expected what rest = what ++ hash_help rest

-- Registers

-- the registers whose names begin like a word: with its letter, and then a digit
abbrev pub registers_like : List ℕ → List ℕ
registers_like word = if is_ascii_digit (slice_index word 1) then advice RegisterLetter (take 1 word) else []

abbrev pub has_parenthesis : List ℕ → Bool
has_parenthesis text = list_any (λ b. b == 0x28) text

-- a name that is like no register is meant for an address
abbrev pub name_help : (statement text : List ℕ) → List ℕ
name_help statement text =
    if length (registers_like text) == 0 then advice NameGiven statement else registers_like text

-- what helps where an operand is no register; a number or an address is not meant by the first one
abbrev pub register_help : (statement text : List ℕ) → (first : Bool) → List ℕ
register_help statement text first =
    if first then registers_like text
    else (if begins_number text then advice NumberGiven statement else name_help statement text)

unfoldable pub no_base : List ℕ → List ℕ
no_base text = about [] text (codes " does not end with a register in parentheses")

unfoldable pub no_register : (text help : List ℕ) → List ℕ
no_register text help = about [] text (codes " is not a register") ++ help

-- Parentheses

-- a word is one of some tokens
abbrev pub has_word : (word line : List ℕ) → List Token → Bool
has_word word line ts = list_any (λ t. bytes_eq (part line t.span) word) ts

-- the word in parentheses that ends some tokens, unless the parentheses are those of a modifier
abbrev pub base_in : (line : List ℕ) → List Token → List ℕ
base_in line [] = []
base_in line (t ∷ ts) =
    if bytes_eq (part line t.span) (codes "(") && length ts == 2 then first_word line ts
    else (if bytes_eq (part line t.span) (codes "%") && length ts == 4 then [] else base_in line ts)

-- a word that is like a register, and is none
abbrev pub base_message : List ℕ → List ℕ
base_message word =
    if is_some (register_named word) || length (registers_like word) == 0 then [] else no_register word (registers_like word)

abbrev pub parenthesis_message : (line : List ℕ) → List Token → List ℕ
parenthesis_message line ts =
    if has_word (codes "(") line ts && not (has_word (codes ")") line ts) then codes "a ')' is missing"
    else base_message (base_in line ts)

-- what is wrong with parentheses and what stands in them
unfoldable pub parentheses_of : List ℕ → List ℕ
parentheses_of text = parenthesis_message text (lexed_line text).tokens

-- a register where an address in one is wanted
unfoldable pub no_parentheses : List ℕ → List ℕ
no_parentheses text = about [] text (codes " has to stand in parentheses here")

abbrev pub register_message : (statement text parentheses : List ℕ) → (first : Bool) → List ℕ
register_message statement text parentheses first =
    if not (length parentheses == 0) then parentheses
    else (if has_parenthesis text then no_base text else no_register text (register_help statement text first))

abbrev pub separated_register_message : (statement text separation parentheses : List ℕ) → (first : Bool) → List ℕ
separated_register_message statement text separation parentheses first =
    if length separation == 0 then register_message statement text parentheses first else no_register text separation

abbrev pub bad_register : (statement text rest : List ℕ) → (first : Bool) → List ℕ
bad_register statement text rest first =
    if length text == 0 then expected (codes "a register is expected here") rest
    else (if is_some (register_named text) then no_parentheses text
    else separated_register_message statement text (separation_of text) (parentheses_of text) first)

-- Other operands

abbrev pub operand_help : (statement separation : List ℕ) → List ℕ
operand_help statement separation =
    if length separation == 0 then advice OperandGiven statement else separation

unfoldable pub no_operand : (statement text help : List ℕ) → List ℕ
no_operand statement text help =
    about [] text (codes " is not an operand that ") ++ (about [] statement (codes " takes here") ++ help)

abbrev pub operand_message : (statement text separation parentheses : List ℕ) → List ℕ
operand_message statement text separation parentheses =
    if length separation == 0 && not (length parentheses == 0) then parentheses
    else no_operand statement text (operand_help statement separation)

abbrev pub bad_operand : (statement text rest : List ℕ) → List ℕ
bad_operand statement text rest =
    if length text == 0 then expected (codes "an operand is expected here") rest
    else operand_message statement text (separation_of text) (parentheses_of text)

-- Lines without a statement

unfoldable pub no_statement : (word next : List ℕ) → List ℕ
no_statement word next =
    codes "an instruction or a directive is expected here" ++ (if is_foreign word next then comment_help else [])
