-- How the tokens after a name are cut into runs at commas. (docs/LANGUAGE.md, Statements)
use Rattle.std.specs.Prelude.{ℕ, ◌&&◌, ◌==◌, List, [], ◌∷◌, codes, if◌then◌else◌}
use Rattle.rv_text.specs.Lexing.{SpelledToken}
use Rattle.rv_expr.specs.Depth.{depth_after}
use Rattle.rv_expr.specs.TokenRoles.{token_role}
use Rattle.rv_stmt.specs.declared.runs.Run.{Run}
use Rattle.rv_stmt.specs.Tokens.{is_punctuation}

-- a run of no tokens: its span is empty, at the end of the token before it
abbrev pub no_tokens : ℕ → Run
no_tokens end = record { tokens = []; span = record { from = end; to = end } }

-- a token put before the first run
abbrev pub with_first : SpelledToken → List Run → List Run
with_first p [] = []
with_first p (r ∷ rs) =
    record { tokens = p ∷ r.tokens; span = record { from = p.span.from; to = r.span.to } } ∷ rs

-- the runs of some tokens, cut at the commas outside parentheses; `end` is the end of the token before them
abbrev pub runs_from : (end : ℕ) → (depth : ℕ) → List SpelledToken → List Run
runs_from end depth [] = no_tokens end ∷ []
runs_from end depth (p ∷ ps) =
    if is_punctuation (codes ",") p && depth == 0
    then no_tokens end ∷ runs_from p.span.to 0 ps
    else with_first p (runs_from p.span.to (depth_after depth (token_role p)) ps)

-- the runs after a name that ends at `end`; no tokens are no run
abbrev pub runs_of : ℕ → List SpelledToken → List Run
runs_of end [] = []
runs_of end (p ∷ ps) = runs_from end 0 (p ∷ ps)
