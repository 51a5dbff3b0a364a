-- The tokens of a line are lexical.
use Rattle.std.proofs.Common.{◌≡◌, ℕ, zero, suc, ◌+◌, ◌-◌, ◌≤◌, List, [], ◌∷◌, length, take, drop, map, Option, ap, ◌∙◌, arith, length-drop, length-take-le}
use Rattle.std.specs.List.{AllByRecursion}
use Rattle.std.proofs.lemmas.List.Elements.{All-from_recursion}
use Rattle.rv_text.specs.declared.faults.Fault.{Fault}
use Rattle.rv_text.specs.declared.lexeme.Token.{Token}
use Rattle.rv_text.specs.declared.lexeme.TokenKind.{TokenKind}
use Rattle.rv_text.specs.declared.lexeme.Prefix.{Prefix}
use Rattle.rv_text.specs.declared.lexeme.Prefix.TheVariants.{Whitespace, Comment, Lexeme, Wrong}
use Rattle.rv_text.specs.Lexing.{Lexed, SpansFit, bytes_of_tokens, lexed_line, prefix, spelled_tokens, text_at, with_rest, tokens_from, tokens_of}
use Rattle.rv_text.specs.Lexical.{IsOfKind, Reads, ended, comment, whitespace, token, wrong, Rise}
use Rattle.rv_text.specs.TokenLaws.{tokens_from-taken}
use Rattle.rv_text.proofs.LexicalLemmas.{Stands, prefix_stands}

abbrev ReadsAs : ℕ → List ℕ → Lexed → Type 0
ReadsAs at bs l = Reads at bs l.tokens l.fault

pub some_bytes : (kind : TokenKind) (n : ℕ) (bs : List ℕ) → IsOfKind kind (take n bs) → 1 ≤ n
some_bytes kind zero bs h = absurd h
some_bytes kind (suc n) bs h = omega arith

-- a token and what follows it
token_then : (at n : ℕ) (kind : TokenKind) (b : ℕ) (bs : List ℕ) → Stands b bs (Lexeme kind n) → ((at : ℕ) (k : ℕ) → k ≤ length bs → ReadsAs at (drop k bs) (tokens_from at 0 (drop k bs))) → ReadsAs at (b ∷ bs) (with_rest (Lexeme kind n) at (λ taken. tokens_from (at + 1) taken bs))
token_then at zero kind b bs h next = absurd (omega (arith, some_bytes kind 0 (b ∷ bs) h.1.is))
token_then at (suc m) kind b bs h next =
    let within : m ≤ length bs = omega (arith, h.1.fits) in
    let place : at + 1 + m ≡ at + suc m = omega arith in
    let step : suc m - 1 ≡ m = omega arith in
    let same : tokens_from (at + 1) m bs ≡ tokens_from (at + suc m) 0 (drop m bs) =
    tokens_from-taken (at + 1) m bs within ∙ ap (λ x. tokens_from x 0 (drop m bs)) place in
    let rest = next (at + suc m) m within in
    rw (step, same) (token at (suc m) kind (b ∷ bs) (tokens_from (at + suc m) 0 (drop m bs)).tokens (tokens_from (at + suc m) 0 (drop m bs)).fault h.1.fits h.0 h.1.is h.1.ends h.1.longest rest)

with_rest_reads : (at b : ℕ) (bs : List ℕ) (f : Prefix) → Stands b bs f → ((at : ℕ) (k : ℕ) → k ≤ length bs → ReadsAs at (drop k bs) (tokens_from at 0 (drop k bs))) → ReadsAs at (b ∷ bs) (with_rest f at (λ taken. tokens_from (at + 1) taken bs))
with_rest_reads at b bs Whitespace h next =
    whitespace at b bs (tokens_from (at + 1) 0 bs).tokens (tokens_from (at + 1) 0 bs).fault h (next (at + 1) 0 (omega arith))
with_rest_reads at b bs Comment h next = comment at (b ∷ bs) h
with_rest_reads at b bs (Lexeme kind n) h next = token_then at n kind b bs h next
with_rest_reads at b bs (Wrong number n) h next = wrong at n number b bs h.0 h.1

reads_from : (fuel at : ℕ) (bs : List ℕ) → length bs ≤ fuel → ReadsAs at bs (tokens_from at 0 bs)
reads_from fuel at [] enough = ended at
reads_from zero at (b ∷ bs) enough = absurd (omega arith)
reads_from (suc fuel) at (b ∷ bs) enough =
    with_rest_reads at b bs (prefix (b ∷ bs)) (prefix_stands b bs) (λ at k fits. reads_from fuel at (drop k bs) (rw length-drop (omega arith)))

pub reads : (line : List ℕ) → Reads 0 line (tokens_of line).tokens (tokens_of line).fault
reads line = reads_from (length line) 0 line (omega arith)

-- a place before the first token does as well
rises_later : (from at end : ℕ) (ts : List Token) → from ≤ at → Rise at end ts → Rise from end ts
rises_later from at end [] h rise = omega arith
rises_later from at end (t ∷ ts) h rise = (omega (arith, rise.0), rise.1, rise.2)

rises_from : {at : ℕ} {bs : List ℕ} {ts : List Token} {fault : Option Fault} → Reads at bs ts fault → Rise at (at + length bs) ts
rises_from (ended at) = omega arith
rises_from (comment at bs h) = omega arith
rises_from (whitespace at b bs ts fault h more) = rises_later at (at + 1) (at + length (b ∷ bs)) ts (omega arith) (let e : at + 1 + length bs ≡ at + length (b ∷ bs) = omega arith in rw e at (rises_from more))
rises_from (token at n kind bs ts fault fits plain is ends longest more) =
    let some = some_bytes kind n bs is in
    let e : at + n + length (drop n bs) ≡ at + length bs = rw length-drop (omega arith) in
    (omega arith, omega arith, rw e at (rises_from more))
rises_from (wrong at n number b bs plain h) = omega arith

pub rises : (line : List ℕ) → Rise 0 (length line) (tokens_of line).tokens
rises line = let e : 0 + length line ≡ length line = omega arith in rw e at (rises_from (reads line))

-- rising spans end where the line does
rise_end : (at end : ℕ) (ts : List Token) → Rise at end ts → at ≤ end
rise_end at end [] rise = rise
rise_end at end (t ∷ ts) rise = let h = rise_end t.span.to end ts rise.2 in omega (arith, rise.0, rise.1, h)

fit_from : (line : List ℕ) (at : ℕ) (ts : List Token) → Rise at (length line) ts → AllByRecursion (λ (t : Token). (t.span.from ≤ t.span.to) × (t.span.to ≤ length line)) ts
fit_from line at [] rise = tt
fit_from line at (t ∷ ts) rise = ((omega (arith, rise.1), rise_end t.span.to (length line) ts rise.2), fit_from line t.span.to ts rise.2)

pub fit : (line : List ℕ) → SpansFit line (tokens_of line).tokens
fit line = All-from_recursion _ (tokens_of line).tokens (fit_from line 0 (tokens_of line).tokens (rises line))

bytes_from : (line : List ℕ) (at : ℕ) (ts : List Token) → Rise at (length line) ts → at + bytes_of_tokens (map (λ t. record { kind = t.kind; text = text_at line t.span; span = t.span }) ts) ≤ length line
bytes_from line at [] rise = omega (arith, rise)
bytes_from line at (t ∷ ts) rise =
    let rest = bytes_from line t.span.to ts rise.2 in
    let inside = rise_end t.span.to (length line) ts rise.2 in
    let after = length-drop t.span.from line in
    let own : length (text_at line t.span) ≡ t.span.to - t.span.from = length-take-le (t.span.to - t.span.from) (drop t.span.from line) (omega (arith, after, inside)) in
    omega (arith, rise.0, rise.1, rest, own)

pub few_bytes : (line : List ℕ) → bytes_of_tokens (spelled_tokens (lexed_line line)) ≤ length line
few_bytes line = let h = bytes_from line 0 (tokens_of line).tokens (rises line) in omega (arith, h)
