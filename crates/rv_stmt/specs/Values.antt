-- The values of operands: expressions, and the modifiers that take a part of them. (docs/LANGUAGE.md, Instructions)
use Rattle.std.specs.Prelude.{ℕ, ◌-◌, Bool, true, false, ◌&&◌, ◌==◌, nat_lt, nat_le, List, length, map, Option, Some, None, option_and_then, Ok, Err, slice_range, codes, if◌then◌else◌}
use Rattle.rv_text.specs.declared.faults.FaultNumber.TheVariants.{BadOperand, TooDeep}
use Rattle.rv_text.specs.Lexing.{SpelledToken}
use Rattle.rv_ops.specs.Names.{first_named}
use Rattle.rv_ops.specs.declared.op.Shape.{Shape}
use Rattle.rv_ops.specs.declared.op.Shape.TheVariants as shape
use Rattle.rv_expr.specs.declared.tree.LabelReference.{LabelReference}
use Rattle.rv_expr.specs.Depth.{depth_of}
use Rattle.rv_expr.specs.Reading.{expression_of}
use Rattle.rv_expr.specs.Tree.{Tree, label_reference_of}
use Rattle.rv_stmt.specs.declared.modifiers.Modifier.{Modifier}
use Rattle.rv_stmt.specs.declared.modifiers.Modifier.TheVariants as modifier
use Rattle.rv_stmt.specs.declared.modifiers.TheConstants.{MODIFIERS}
use Rattle.rv_stmt.specs.declared.operand.OperandValue.{OperandValue}
use Rattle.rv_stmt.specs.declared.operand.OperandValue.TheVariants.{Plain, High, Low, PcrelHigh, PcrelLow}
use Rattle.rv_stmt.specs.Readings.{Reading, and_then, or_fault}
use Rattle.rv_stmt.specs.Tokens.{punctuation_at, identifier_at}

-- more than 64 parentheses are open at one place
abbrev pub is_deep : List SpelledToken → Bool
is_deep run = nat_lt 64 (depth_of run)

-- the expression that a run is
abbrev pub expression : List SpelledToken → Reading Tree
expression run = if is_deep run then Err TooDeep else or_fault BadOperand (expression_of run)

-- a value without a modifier
abbrev pub plain : List SpelledToken → Reading OperandValue
plain run = and_then (expression run) (λ e. Ok (Plain e))

-- the names of the modifiers
unfoldable pub modifier_names : List (Modifier × List ℕ)
modifier_names = map (λ row. (row.0, row.1.now)) MODIFIERS

-- the modifier that has the name, in either letter case
unfoldable pub modifier_named : List ℕ → Option Modifier
modifier_named name = first_named modifier_names name

-- the modifiers that a shape takes: those of the upper 20 bits, those of the lower 12 bits, or none
abbrev pub takes_modifier : Shape → Modifier → Bool
takes_modifier shape.Upper modifier.High = true
takes_modifier shape.Upper modifier.PcrelHigh = true
takes_modifier shape.JumpRegister modifier.Low = true
takes_modifier shape.JumpRegister modifier.PcrelLow = true
takes_modifier shape.Load modifier.Low = true
takes_modifier shape.Load modifier.PcrelLow = true
takes_modifier shape.Store modifier.Low = true
takes_modifier shape.Store modifier.PcrelLow = true
takes_modifier shape.Immediate modifier.Low = true
takes_modifier shape.Immediate modifier.PcrelLow = true
takes_modifier s m = false

-- a modifier that the shape takes
abbrev pub modifier_of_shape : Shape → Option Modifier → Option Modifier
modifier_of_shape s None = None
modifier_of_shape s (Some m) = if takes_modifier s m then Some m else None

-- a symbol, a local label or `.`, which one token is
abbrev pub label_reference : List SpelledToken → Reading LabelReference
label_reference run =
    if length run == 1 then and_then (expression run) (λ e. or_fault BadOperand (label_reference_of e)) else Err BadOperand

-- the value that a modifier makes of what stands between its parentheses
abbrev pub value_of_modifier : Modifier → List SpelledToken → Reading OperandValue
value_of_modifier modifier.High run = and_then (expression run) (λ e. Ok (High e))
value_of_modifier modifier.Low run = and_then (expression run) (λ e. Ok (Low e))
value_of_modifier modifier.PcrelHigh run = and_then (expression run) (λ e. Ok (PcrelHigh e))
value_of_modifier modifier.PcrelLow run = and_then (label_reference run) (λ label. Ok (PcrelLow label))

-- `%name(..)`, with a modifier that the shape takes
abbrev pub modified_value : Shape → List SpelledToken → Reading OperandValue
modified_value s run =
    if nat_le 4 (length run) && punctuation_at (codes "(") run 2 && punctuation_at (codes ")") run (length run - 1)
    then and_then
    (or_fault BadOperand (modifier_of_shape s (option_and_then modifier_named (identifier_at run 1))))
    (λ m. value_of_modifier m (slice_range run 3 (length run - 1)))
    else Err BadOperand

-- an immediate: an expression, or one with a modifier
abbrev pub immediate : Shape → List SpelledToken → Reading OperandValue
immediate s run = if punctuation_at (codes "%") run 0 then modified_value s run else plain run
