-- What a line uses of other lines and of its own place, by its operands. A faulty body has no operands.
use Rattle.std.specs.Prelude.{ℕ, Bool, true, false, ◌||◌, List, [], ◌∷◌, ◌++◌}
use Rattle.std.specs.List.{list_any, flat_map}
use Rattle.rv_expr.specs.declared.tree.LabelReference.{LabelReference}
use Rattle.rv_expr.specs.declared.tree.LabelReference.TheVariants as label
use Rattle.rv_expr.specs.Tree.{Tree, Symbol, Local, Here, Unary, Binary}
use Rattle.rv_stmt.specs.declared.operand.Operand.{Operand}
use Rattle.rv_stmt.specs.declared.operand.OperandValue.{OperandValue}
use Rattle.rv_stmt.specs.declared.operand.OperandValue.TheVariants.{Plain, High, Low, PcrelHigh, PcrelLow}
use Rattle.rv_stmt.specs.declared.operand.Role.{Role}
use Rattle.rv_stmt.specs.declared.operand.Role.TheVariants.{Target, PairTarget, Alignment}
use Rattle.rv_stmt.specs.declared.statement.Body.{Body}
use Rattle.rv_stmt.specs.declared.statement.Body.TheVariants.{Align, Equ}
use Rattle.rv_stmt.specs.Statement.{operands_of}
use Rattle.rv_layout.specs.Shapes.{is_size}

-- Expressions

-- the symbols in an expression, from left to right
abbrev pub names_in : Tree → List (List ℕ)
names_in (Symbol name) = name ∷ []
names_in (Unary op a) = names_in a
names_in (Binary op a b) = names_in a ++ names_in b
names_in e = []

-- `.` stands in an expression
abbrev pub has_here : Tree → Bool
has_here Here = true
has_here (Unary op a) = has_here a
has_here (Binary op a b) = has_here a || has_here b
has_here e = false

-- a local label stands in an expression
abbrev pub has_local_label : Tree → Bool
has_local_label (Local number direction) = true
has_local_label (Unary op a) = has_local_label a
has_local_label (Binary op a b) = has_local_label a || has_local_label b
has_local_label e = false

-- Operands

abbrev pub tree_of_label : LabelReference → Tree
tree_of_label (label.Symbol name) = Symbol name
tree_of_label (label.Local number direction) = Local number direction
tree_of_label label.Here = Here

-- the expression of an operand, or the label of its `%pcrel_lo`
abbrev pub expression_of : OperandValue → Tree
expression_of (Plain e) = e
expression_of (High e) = e
expression_of (Low e) = e
expression_of (PcrelHigh e) = e
expression_of (PcrelLow l) = tree_of_label l

abbrev pub is_pcrel_high : OperandValue → Bool
is_pcrel_high (PcrelHigh e) = true
is_pcrel_high value = false

abbrev pub is_pcrel_low : OperandValue → Bool
is_pcrel_low (PcrelLow l) = true
is_pcrel_low value = false

-- a value in this role is counted from the address of its line
abbrev pub is_relative : Role → Bool
is_relative Target = true
is_relative PairTarget = true
is_relative (Alignment u) = true
is_relative role = false

abbrev pub operand_uses_address : Operand → Bool
operand_uses_address o = has_here (expression_of o.value) || is_pcrel_high o.value || is_relative o.role

-- Lines

-- the symbols whose values or constants the line uses
abbrev pub names_used : Body → List (List ℕ)
names_used body = flat_map (λ o. names_in (expression_of o.value)) (operands_of body)

-- the line uses symbols
abbrev pub uses_symbols : Body → Bool
uses_symbols body = list_any (λ name. true) (names_used body)

-- the shape of the line follows from the value of an operand
abbrev pub is_sized : Body → Bool
is_sized body = list_any (λ o. is_size o.role) (operands_of body)

-- the line uses its own address: by `.`, a target, an address in two instructions, `%pcrel_hi`, or as an alignment, whose
-- padding follows from its place
abbrev pub uses_address : Body → Bool
uses_address (Align d) = true
uses_address body = list_any operand_uses_address (operands_of body)

abbrev pub uses_local_label : Body → Bool
uses_local_label body = list_any (λ o. has_local_label (expression_of o.value)) (operands_of body)

-- the line uses the high half that belongs to a `%pcrel_lo`
abbrev pub uses_paired_high : Body → Bool
uses_paired_high body = list_any (λ o. is_pcrel_low o.value) (operands_of body)

abbrev pub is_equ : Body → Bool
is_equ (Equ d) = true
is_equ body = false
