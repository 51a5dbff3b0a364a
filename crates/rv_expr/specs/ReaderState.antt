-- What the state of the reader stands for.
use Rattle.std.specs.Prelude.{◌≡◌, List, reverse, Option, Some, None, ⊤}
use Rattle.rv_expr.specs.declared.faults.ReadFault.{ReadFault}
use Rattle.rv_expr.specs.declared.faults.ReadFault.TheVariants as faults
use Rattle.rv_expr.specs.declared.reading.Pending.{Pending}
use Rattle.rv_expr.specs.declared.expression_tokens.Primary.{Primary}
use Rattle.rv_expr.specs.declared.expression_tokens.Primary.TheVariants as primaries
use Rattle.rv_expr.specs.declared.expression_tokens.ExpressionToken.{ExpressionToken}
use Rattle.rv_expr.specs.declared.expression_tokens.ExpressionToken.TheVariants as tokens
use Rattle.rv_expr.specs.declared.tree.Expr.{Expr}
use Rattle.rv_expr.specs.TokenRoles.{TokenRole, Operand, Operator, Open, Close}
use Rattle.rv_expr.specs.Reading.{expecting_operand, after_operand}
use Rattle.rv_expr.specs.Tree.{Tree, Number, Symbol, Local, Here}

-- what waits, the innermost first; the code keeps it last
abbrev pub waits : List Pending → List Pending
waits ps = reverse ps

abbrev pub primary_tree : Primary → Tree
primary_tree (primaries.Number n) = Number n
primary_tree (primaries.Symbol w) = Symbol w.now
primary_tree (primaries.Local number direction) = Local number direction
primary_tree primaries.Here = Here

abbrev pub expression_token_role : ExpressionToken → TokenRole
expression_token_role (tokens.Operand o) = Operand (primary_tree o)
expression_token_role (tokens.Operator unary binary) = Operator unary binary
expression_token_role tokens.Open = Open
expression_token_role tokens.Close = Close

-- what becomes of the roles that are left, where an operand is expected or one is there
abbrev pub left_of : List Pending → Option Expr → List TokenRole → Option Tree
left_of ps None rs = expecting_operand (waits ps) rs
left_of ps (Some e) rs = after_operand (waits ps) e rs

-- what a fault says of what becomes of the roles; the depth was looked at before
abbrev pub Fails : ReadFault → Option Tree → Type 0
Fails faults.Deep tree = ⊥
Fails faults.Operand tree = tree ≡ None
Fails faults.Memory tree = ⊤
