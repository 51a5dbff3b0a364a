-- The tree of an expression, from its root node and the trees of the operands.
use Rattle.rv_expr.specs.declared.tree.Node.{Node}
use Rattle.rv_expr.specs.declared.tree.Node.TheVariants as node
use Rattle.rv_expr.specs.Tree.{Tree, Number, Symbol, Local, Here, Unary, Binary}

abbrev pub tree_of_node : Node → Tree
tree_of_node (node.Number n) = Number n
tree_of_node (node.Symbol name) = Symbol name
tree_of_node (node.Local number direction) = Local number direction
tree_of_node node.Here = Here
tree_of_node (node.Unary op a) = Unary op a.value
tree_of_node (node.Binary op a b) = Binary op a.value b.value
