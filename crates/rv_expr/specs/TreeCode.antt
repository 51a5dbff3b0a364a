-- How the logic stores a tree: in postfix notation, each operator after its operands.
use Rattle.std.specs.Prelude.{◌≡◌, ℕ, ℤ, List, [], ◌∷◌, ◌⊎◌, refl}
use base.Stored.{coded_unit}
use Rattle.std.specs.Coded.{Coded, code_by, coded×, coded⊎, coded_ℕ, coded_ℤ, coded_list}
use Rattle.std.proofs.Common.{◌∙◌, ap, get_or, inl, inr}
use Rattle.rv_expr.specs.contracts.tree.BinaryOp as binary_ops
use Rattle.rv_expr.specs.contracts.tree.Direction as directions
use Rattle.rv_expr.specs.contracts.tree.UnaryOp as unary_ops
use Rattle.rv_expr.specs.declared.tree.BinaryOp.{BinaryOp}
use Rattle.rv_expr.specs.declared.tree.UnaryOp.{UnaryOp}
use Rattle.rv_expr.specs.declared.tree.Direction.{Direction}
use Rattle.rv_expr.specs.Tree.{Tree, Number, Symbol, Local, Here, Unary, Binary}

-- an operand by itself: a number, a name, a local label, `.`
abbrev pub Leaf : Type 0
Leaf = ℤ ⊎ (List ℕ ⊎ ((ℕ × Direction) ⊎ Unit {0}))

-- an operand, or an operator
abbrev pub PostfixItem : Type 0
PostfixItem = Leaf ⊎ (UnaryOp ⊎ BinaryOp)

-- the items of a tree, and then those that are left
abbrev pub postfix : Tree → List PostfixItem → List PostfixItem
postfix (Number n) rest = inl (inl n) ∷ rest
postfix (Symbol name) rest = inl (inr (inl name)) ∷ rest
postfix (Local number direction) rest = inl (inr (inr (inl (number, direction)))) ∷ rest
postfix Here rest = inl (inr (inr (inr tt))) ∷ rest
postfix (Unary op a) rest = postfix a (inr (inl op) ∷ rest)
postfix (Binary op a b) rest = postfix a (postfix b (inr (inr op) ∷ rest))

-- the tree that is one operand
abbrev pub leaf : Leaf → Tree
leaf (inl n) = Number n
leaf (inr (inl name)) = Symbol name
leaf (inr (inr (inl l))) = Local l.0 l.1
leaf (inr (inr (inr u))) = Here

-- the stack of trees after one more item, the last first
abbrev pub after_item : List Tree → PostfixItem → List Tree
after_item es (inl l) = leaf l ∷ es
after_item (a ∷ es) (inr (inl op)) = Unary op a ∷ es
after_item (b ∷ a ∷ es) (inr (inr op)) = Binary op a b ∷ es
after_item es item = es

-- the stack of trees after more items
abbrev pub trees : List Tree → List PostfixItem → List Tree
trees es [] = es
trees es (item ∷ rest) = trees (after_item es item) rest

-- the items of a tree put it on the stack
pub trees-postfix : (e : Tree) (es : List Tree) (rest : List PostfixItem) → trees es (postfix e rest) ≡ trees (e ∷ es) rest
trees-postfix (Number n) es rest = refl
trees-postfix (Symbol name) es rest = refl
trees-postfix (Local number direction) es rest = refl
trees-postfix Here es rest = refl
trees-postfix (Unary op a) es rest = trees-postfix a es _
trees-postfix (Binary op a b) es rest = trees-postfix a es _ ∙ trees-postfix b (a ∷ es) _

abbrev pub tree_code : Coded Tree
tree_code =
    code_by
    (List PostfixItem)
    (coded_list
    (coded⊎
    (coded⊎ coded_ℤ (coded⊎ (coded_list coded_ℕ) (coded⊎ (coded× coded_ℕ directions.the_row.coded) coded_unit)))
    (coded⊎ unary_ops.the_row.coded binary_ops.the_row.coded)))
    (λ e. postfix e [])
    (λ items. get_or (trees [] items) 0 Here)
    (λ e. ap (λ es. get_or es 0 Here) (trees-postfix e [] []))
