-- Jumps and the like: lines that use the address of one label, counted from their own, and nothing else.
-- (docs/LANGUAGE.md, Values of operands)
use Rattle.std.specs.Prelude.{ℕ, List, [], ◌∷◌, Option, Some, None, Ok}
use Rattle.rv_expr.specs.Tree.{Tree, Symbol, Local}
use Rattle.rv_stmt.specs.declared.operand.Operand.{Operand}
use Rattle.rv_stmt.specs.declared.operand.OperandValue.{OperandValue}
use Rattle.rv_stmt.specs.declared.operand.OperandValue.TheVariants.{Plain}
use Rattle.rv_stmt.specs.declared.operand.Role.{Role}
use Rattle.rv_stmt.specs.declared.operand.Role.TheVariants.{Target, PairTarget}
use Rattle.rv_stmt.specs.declared.statement.Body.{Body}
use Rattle.rv_stmt.specs.declared.statement.Body.TheVariants.{Instr, Pseudo}
use Rattle.rv_stmt.specs.Readings.{and_then}
use Rattle.rv_fix.specs.Displacements.{displacement}
use Rattle.rv_fix.specs.Values.{Entry}

-- an expression that is a symbol or a local label
abbrev pub label_in : Tree → Option Tree
label_in (Symbol name) = Some (Symbol name)
label_in (Local number direction) = Some (Local number direction)
label_in e = None

-- the symbol or local label that an operand is, where its role is that of a target
abbrev pub target_in : OperandValue → Role → Option Tree
target_in (Plain e) Target = label_in e
target_in (Plain e) PairTarget = label_in e
target_in value role = None

abbrev pub target_among : List Operand → Option Tree
target_among (o ∷ []) = target_in o.value o.role
target_among os = None

-- the symbol or local label that a line goes to, if that is its only operand
abbrev pub target_of : Body → Option Tree
target_of (Instr i) = target_among i.operands
target_of (Pseudo i) = target_among i.operands
target_of body = None

-- how far an address is, if there is one
abbrev pub distance : (here : ℕ) → Entry → Entry
distance here address = and_then address (λ v. Ok (displacement here v))
