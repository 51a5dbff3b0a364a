-- The first run of some tokens, by which the code is seen to cut them.
use Rattle.std.specs.Prelude.{ℕ, ◌+◌, ◌&&◌, ◌==◌, List, [], ◌∷◌, codes, if◌then◌else◌}
use Rattle.rv_text.specs.Lexing.{SpelledToken}
use Rattle.rv_expr.specs.Depth.{depth_after}
use Rattle.rv_expr.specs.TokenRoles.{token_role}
use Rattle.rv_stmt.specs.declared.runs.Run.{Run}
use Rattle.rv_stmt.specs.Runs.{runs_from}
use Rattle.rv_stmt.specs.Tokens.{is_punctuation}

-- how many tokens stand before the next comma outside parentheses, where `depth` are open
abbrev pub run_length : (depth : ℕ) → List SpelledToken → ℕ
run_length depth [] = 0
run_length depth (p ∷ ps) =
    if is_punctuation (codes ",") p && depth == 0 then 0 else run_length (depth_after depth (token_role p)) ps + 1

-- where they end; `end` is the end of the token before them
abbrev pub run_end : (end : ℕ) → (depth : ℕ) → List SpelledToken → ℕ
run_end end depth [] = end
run_end end depth (p ∷ ps) =
    if is_punctuation (codes ",") p && depth == 0 then end else run_end p.span.to (depth_after depth (token_role p)) ps

-- the runs after the comma with which some tokens begin
abbrev pub runs_after : List SpelledToken → List Run
runs_after [] = []
runs_after (p ∷ ps) = runs_from p.span.to 0 ps
