-- The first run of some tokens.
use Rattle.std.proofs.Common.{◌≡◌, ℕ, suc, ◌+◌, ◌≤◌, true, false, cond, ◌&&◌, ◌==◌, List, [], ◌∷◌, length, take, drop, codes, refl, ap, ◌∙◌, arith}
use Rattle.rv_text.specs.Lexing.{SpelledToken}
use Rattle.rv_expr.specs.Depth.{depth_after}
use Rattle.rv_expr.specs.TokenRoles.{token_role}
use Rattle.rv_stmt.specs.FirstRun.{run_length, run_end, runs_after}
use Rattle.rv_stmt.specs.declared.runs.Run.{Run}
use Rattle.rv_stmt.specs.Runs.{no_tokens, with_first, runs_from}
use Rattle.rv_stmt.specs.Tokens.{is_punctuation}

-- where some tokens begin; `end` is the end of the token before them
abbrev pub run_start : ℕ → List SpelledToken → ℕ
run_start end [] = end
run_start end (p ∷ ps) = p.span.from

-- the first run, of so many tokens, and those after it
abbrev run_and_rest : ℕ → ℕ → ℕ → List SpelledToken → List Run
run_and_rest n start end ps =
    record { tokens = take n ps; span = record { from = start; to = end } } ∷ runs_after (drop n ps)

-- a token that ends no run joins the run after it
goes_on : (end to : ℕ) (p : SpelledToken) (ps : List SpelledToken) (n : ℕ) (last : ℕ) (rs : List Run) → rs ≡ run_and_rest n (run_start to (take n ps)) last ps → with_first p rs ≡ run_and_rest (n + 1) (run_start end (take (n + 1) (p ∷ ps))) last (p ∷ ps)
goes_on end to p ps n last rs h =
    let next : suc n ≡ n + 1 = omega arith in
    ap (with_first p) h ∙ ap (λ m. run_and_rest m (run_start end (take m (p ∷ ps))) last (p ∷ ps)) next

pub first_run : (end depth : ℕ) (ps : List SpelledToken) → runs_from end depth ps ≡ record { tokens = take (run_length depth ps) ps; span = record { from = run_start end (take (run_length depth ps) ps); to = run_end end depth ps } } ∷ runs_after (drop (run_length depth ps) ps)
first_run end depth [] = refl
first_run end depth (p ∷ ps) =
    let after = depth_after depth (token_role p) in
    let n = run_length after ps in
    let last = run_end p.span.to after ps in
    elim (is_punctuation (codes ",") p && depth == 0)
    as (λ ends. cond ends (no_tokens end ∷ runs_from p.span.to 0 ps) (with_first p (runs_from p.span.to after ps))
    ≡ run_and_rest (cond ends 0 (n + 1)) (run_start end (take (cond ends 0 (n + 1)) (p ∷ ps))) (cond ends end last) (p ∷ ps))
    [ true ↦ refl | false ↦ goes_on end p.span.to p ps n last (runs_from p.span.to after ps) (first_run p.span.to after ps) ]

pub run_length_within : (depth : ℕ) (ps : List SpelledToken) → run_length depth ps ≤ length ps
run_length_within depth [] = omega arith
run_length_within depth (p ∷ ps) =
    elim (is_punctuation (codes ",") p && depth == 0)
    as (λ ends. cond ends 0 (run_length (depth_after depth (token_role p)) ps + 1) ≤ length (p ∷ ps))
    [ true ↦ omega arith | false ↦ (let inner = run_length_within (depth_after depth (token_role p)) ps in omega (arith, inner)) ]
