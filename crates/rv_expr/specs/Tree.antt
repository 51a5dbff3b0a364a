-- Expressions as trees, apart from where they lie in memory.
use Rattle.std.specs.Prelude.{ℕ, ◌+◌, ℤ, List, Option, Some, None}
use Rattle.rv_expr.specs.declared.tree.BinaryOp.{BinaryOp}
use Rattle.rv_expr.specs.declared.tree.BinaryOp.TheVariants.{Mul, Div, Rem, Shl, Shr, And, Or, Xor, Add, Sub}
use Rattle.rv_expr.specs.declared.tree.UnaryOp.{UnaryOp}
use Rattle.rv_expr.specs.declared.tree.Direction.{Direction}
use Rattle.rv_expr.specs.declared.tree.LabelReference.{LabelReference}
use Rattle.rv_expr.specs.declared.tree.LabelReference.TheVariants as labels

-- a number, a symbol, a local label, `.`, and operators with their operands
pub data Tree : Type 0 where
  Number : ℤ → Tree
  Symbol : List ℕ → Tree
  Local : ℕ → Direction → Tree
  Here : Tree
  Unary : UnaryOp → Tree → Tree
  Binary : BinaryOp → Tree → Tree → Tree

-- the level of an operator, from the tightest on
abbrev pub level : BinaryOp → ℕ
level Mul = 1
level Div = 1
level Rem = 1
level Shl = 1
level Shr = 1
level And = 2
level Or = 2
level Xor = 2
level Add = 3
level Sub = 3

-- how many operators a tree has
abbrev pub tree_size : Tree → ℕ
tree_size (Number n) = 0
tree_size (Symbol name) = 0
tree_size (Local number direction) = 0
tree_size Here = 0
tree_size (Unary op a) = tree_size a + 1
tree_size (Binary op a b) = tree_size a + tree_size b + 1

-- the label that a tree is, where it is a symbol, a local label or `.` alone
abbrev pub label_reference_of : Tree → Option LabelReference
label_reference_of (Symbol name) = Some (labels.Symbol name)
label_reference_of (Local number direction) = Some (labels.Local number direction)
label_reference_of Here = Some labels.Here
label_reference_of (Number n) = None
label_reference_of (Unary op a) = None
label_reference_of (Binary op a b) = None
