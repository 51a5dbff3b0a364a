-- The value of an expression. (docs/LANGUAGE.md, Expressions)
use Rattle.std.specs.Prelude.{ℕ, ℤ, List, Option, Some, None, Result, Ok, Err}
use Rattle.rv_expr.specs.declared.faults.ValueFault.{ValueFault}
use Rattle.rv_expr.specs.declared.faults.ValueFault.TheVariants.{Arithmetic}
use Rattle.rv_expr.specs.declared.tree.Direction.{Direction}
use Rattle.rv_expr.specs.declared.tree.LabelReference.{LabelReference}
use Rattle.rv_expr.specs.Arithmetic.{apply, apply_unary}
use Rattle.rv_expr.specs.Tree.{Tree, Number, Symbol, Local, Here, Unary, Binary}

-- what names give on a line, each a value or a fault
pub record Environment : Type 0 where
  -- a symbol
  pub symbol : List ℕ → Result ℤ ValueFault
  -- a local label
  pub local : ℕ → Direction → Result ℤ ValueFault
  -- `.`
  pub here : Result ℤ ValueFault
  -- the label of `%pcrel_lo`: the operand of the `%pcrel_hi` there, less the address of its line, modulo 2 ^ 32
  pub paired_high : LabelReference → Result ℤ ValueFault

-- what an operator gives: no result is an arithmetic fault
abbrev pub arithmetic : Option ℤ → Result ℤ ValueFault
arithmetic None = Err Arithmetic
arithmetic (Some z) = Ok z

-- the operand, and then the operator
abbrev pub of_one : (ℤ → Option ℤ) → Result ℤ ValueFault → Result ℤ ValueFault
of_one f (Err e) = Err e
of_one f (Ok x) = arithmetic (f x)

-- the left operand, the right operand, and then the operator
abbrev pub of_two : (ℤ → ℤ → Option ℤ) → Result ℤ ValueFault → Result ℤ ValueFault → Result ℤ ValueFault
of_two f (Err e) right = Err e
of_two f (Ok x) (Err e) = Err e
of_two f (Ok x) (Ok y) = arithmetic (f x y)

-- the value of an expression, or its first fault
abbrev pub value_of : Environment → Tree → Result ℤ ValueFault
value_of given (Number n) = Ok n
value_of given (Symbol name) = given.symbol name
value_of given (Local number direction) = given.local number direction
value_of given Here = given.here
value_of given (Unary op a) = of_one (apply_unary op) (value_of given a)
value_of given (Binary op a b) = of_two (apply op) (value_of given a) (value_of given b)
