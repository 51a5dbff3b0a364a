-- One step along a run of tokens.
use Rattle.std.proofs.Common.{◌≡◌, ℕ, suc, ◌+◌, ◌-◌, ◌<◌, ◌∷◌, length, map, drop, refl, ap, ◌∙◌, arith}
use Rattle.std.specs.Prelude.{slice_index_or}
use Rattle.std.proofs.lemmas.List.{drop_more, get_or-map, length-map}
use Rattle.rv_text.specs.declared.lexeme.Token.{Token}
use Rattle.rv_text.specs.Lexing.{LexedLine, SpelledToken, text_at, spelled_tokens}
use Rattle.rv_expr.specs.Reading.{run_of}
use Rattle.rv_expr.specs.TokenRoles.{token_role, token_role_of_text}

module _ (line : LexedLine) (k to : ℕ) (d : Token) (within : k < length line.tokens) (before : k < to) where
  abbrev spelled_token_of : Token → SpelledToken
  spelled_token_of t = record { kind = t.kind; text = text_at line.line t.span; span = t.span }

  -- the token and those after it
  dropped : drop k (spelled_tokens line) ≡ spelled_token_of (slice_index_or line.tokens k d) ∷ drop (k + 1) (spelled_tokens line)
  dropped =
      drop_more (spelled_tokens line) k (spelled_token_of d) (rw length-map within)
      ∙ ap (λ (p : SpelledToken). p ∷ drop (k + 1) (spelled_tokens line)) (get_or-map spelled_token_of line.tokens k d (spelled_token_of d) within)

  run-step : run_of line k to ≡ spelled_token_of (slice_index_or line.tokens k d) ∷ run_of line (k + 1) to
  run-step =
      let more : to - k ≡ suc (to - (k + 1)) = omega arith in
      rw (more, dropped) refl

  pub roles_step : map token_role (run_of line k to) ≡ token_role_of_text (slice_index_or line.tokens k d).kind (text_at line.line (slice_index_or line.tokens k d).span) ∷ map token_role (run_of line (k + 1) to)
  roles_step = ap (map token_role) run-step
