-- One step along a line.
use Rattle.std.proofs.Common.{◌≡◌, ℕ, ◌+◌, ◌-◌, ◌<◌, ◌≤◌, List, ◌∷◌, length, drop, refl, ◌∙◌, arith, length-drop}
use Rattle.std.proofs.lemmas.List.{drop_more, drop-drop}
use Rattle.rv_text.specs.declared.lexeme.TokenKind.{TokenKind}
use Rattle.rv_text.specs.declared.lexeme.Prefix.TheVariants.{Whitespace, Lexeme}
use Rattle.rv_text.specs.Lexing.{tokens_from, with_rest, prefix}
use Rattle.rv_text.specs.TokenLaws.{tokens_from-taken}

-- what a list begins with that is not empty
tokens_from-cons : (at b : ℕ) (bs xs : List ℕ) → xs ≡ b ∷ bs → tokens_from at 0 xs ≡ with_rest (prefix xs) at (λ k. tokens_from (at + 1) k bs)
tokens_from-cons at b bs xs e = rw e refl

module _ (line : List ℕ) (at : ℕ) (within : at < length line) where
  lexed_at : tokens_from at 0 (drop at line) ≡ with_rest (prefix (drop at line)) at (λ k. tokens_from (at + 1) k (drop (at + 1) line))
  lexed_at = tokens_from-cons at _ _ (drop at line) (drop_more line at 0 within)

  pub at_whitespace : prefix (drop at line) ≡ Whitespace → tokens_from at 0 (drop at line) ≡ tokens_from (at + 1) 0 (drop (at + 1) line)
  at_whitespace e = lexed_at ∙ rw e refl

  pub at_lexeme : (kind : TokenKind) (n : ℕ) → prefix (drop at line) ≡ Lexeme kind n → 1 ≤ n → at + n ≤ length line → tokens_from at 0 (drop at line) ≡ record { tokens = record { kind = kind; span = record { from = at; to = at + n } } ∷ (tokens_from (at + n) 0 (drop (at + n) line)).tokens; fault = (tokens_from (at + n) 0 (drop (at + n) line)).fault }
  at_lexeme kind n e one fits =
      let place : at + 1 + (n - 1) ≡ at + n = omega arith in
      let taken = tokens_from-taken (at + 1) (n - 1) (drop (at + 1) line) (rw length-drop (omega arith)) in
      let rest = rw (place, drop-drop (n - 1) (at + 1) line, place) at taken in
      lexed_at ∙ rw (e, rest) refl
