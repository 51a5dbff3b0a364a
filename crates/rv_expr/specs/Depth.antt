-- How many parentheses are open. (docs/LANGUAGE.md, Expressions)
use Rattle.std.specs.Prelude.{ℕ, suc, ◌-◌, max, List, [], ◌∷◌, map}
use Rattle.rv_text.specs.Lexing.{SpelledToken}
use Rattle.rv_expr.specs.TokenRoles.{TokenRole, Operand, Operator, Open, Close, token_role}

-- how many are open after a token, where `depth` are open before it; a `)` that closes none counts for nothing
abbrev pub depth_after : ℕ → TokenRole → ℕ
depth_after depth Open = suc depth
depth_after depth Close = depth - 1
depth_after depth (Operand e) = depth
depth_after depth (Operator unary binary) = depth

-- the most that are open at one place, where `depth` are open at the first
abbrev pub depth_from : ℕ → List TokenRole → ℕ
depth_from depth [] = depth
depth_from depth (r ∷ rs) = max depth (depth_from (depth_after depth r) rs)

-- the most parentheses of a run of tokens that are open at one place
abbrev pub depth_of : List SpelledToken → ℕ
depth_of run = depth_from 0 (map token_role run)
