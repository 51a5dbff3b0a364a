-- How many tokens a line can have, and how they go on.
use Rattle.std.proofs.Common.{◌≡◌, ℕ, zero, suc, ◌+◌, ◌-◌, ◌≤◌, List, [], ◌∷◌, length, drop, sym, refl, ap, ◌∙◌, arith, add-zero}
use Rattle.std.proofs.lemmas.List.{length-map}
use Rattle.rv_text.specs.declared.lexeme.Prefix.{Prefix}
use Rattle.rv_text.specs.declared.lexeme.Prefix.TheVariants.{Whitespace, Comment, Lexeme, Wrong}
use Rattle.rv_text.specs.Lexing.{Lexed, LexedLine, lexed_line, spelled_tokens, with_rest, prefix, tokens_from, tokens_of}

with_rest_few : (f : Prefix) (at n : ℕ) (rest : ℕ → Lexed) → ((k : ℕ) → length (rest k).tokens ≤ n) → length (with_rest f at rest).tokens ≤ suc n
with_rest_few Whitespace at n rest few = let h = few 0 in omega (arith, h)
with_rest_few Comment at n rest few = omega arith
with_rest_few (Lexeme kind k) at n rest few = let h = few (k - 1) in omega (arith, h)
with_rest_few (Wrong number k) at n rest few = omega arith

few_from : (at taken : ℕ) (bs : List ℕ) → length (tokens_from at taken bs).tokens ≤ length bs
few_from at taken [] = omega arith
few_from at (suc taken) (b ∷ bs) = let h = few_from (at + 1) taken bs in omega (arith, h)
few_from at zero (b ∷ bs) =
    with_rest_few (prefix (b ∷ bs)) at (length bs) (λ taken. tokens_from (at + 1) taken bs) (λ taken. few_from (at + 1) taken bs)

-- a line has no more tokens than bytes
pub few_tokens : (line : List ℕ) → length (tokens_of line).tokens ≤ length line
few_tokens line = few_from 0 0 line

-- each token has its text
pub count_of_spelled_tokens : (l : LexedLine) → length (spelled_tokens l) ≡ length l.tokens
count_of_spelled_tokens l = length-map l.tokens _

-- a line has no more tokens with their texts than bytes
pub few_spelled_tokens : (line : List ℕ) → length (spelled_tokens (lexed_line line)) ≤ length line
few_spelled_tokens line = let count = count_of_spelled_tokens (lexed_line line) in let few = few_tokens line in omega (arith, count, few)

-- to take k bytes is to go on after them
pub tokens_from-taken : (at k : ℕ) (bs : List ℕ) → k ≤ length bs → tokens_from at k bs ≡ tokens_from (at + k) 0 (drop k bs)
tokens_from-taken at zero [] h = refl
tokens_from-taken at zero (b ∷ bs) h = ap (λ x. tokens_from x 0 (b ∷ bs)) (sym (add-zero at))
tokens_from-taken at (suc k) [] h = absurd (omega arith)
tokens_from-taken at (suc k) (b ∷ bs) h =
    let place : at + 1 + k ≡ at + suc k = omega arith in
    tokens_from-taken (at + 1) k bs (omega arith) ∙ ap (λ x. tokens_from x 0 (drop k bs)) place
