-- What it is that parentheses are open at one place. (docs/LANGUAGE.md, Expressions)
use Rattle.std.specs.Prelude.{◌≡◌, ℕ, ◌+◌, ◌≤◌, List, [], ◌∷◌, ◌++◌, map}
use Rattle.rv_text.specs.Lexing.{SpelledToken}
use Rattle.rv_expr.specs.TokenRoles.{TokenRole, Operand, Operator, Open, Close, token_role}

-- how many `(` there are
abbrev pub openings : List TokenRole → ℕ
openings [] = 0
openings (Open ∷ rs) = 1 + openings rs
openings (Close ∷ rs) = openings rs
openings (Operand e ∷ rs) = openings rs
openings (Operator unary binary ∷ rs) = openings rs

-- how many `)` there are
abbrev pub closings : List TokenRole → ℕ
closings [] = 0
closings (Open ∷ rs) = closings rs
closings (Close ∷ rs) = 1 + closings rs
closings (Operand e ∷ rs) = closings rs
closings (Operator unary binary ∷ rs) = closings rs

-- so many are open at one place: those that a stretch of the tokens opens and does not close
pub record AreOpenAtOnce (count : ℕ) (run : List SpelledToken) : Type 0 where
  pub before : List TokenRole
  pub stretch : List TokenRole
  pub after : List TokenRole
  pub whole : map token_role run ≡ before ++ (stretch ++ after)
  pub opened : closings stretch + count ≤ openings stretch
