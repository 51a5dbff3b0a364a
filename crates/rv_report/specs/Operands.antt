-- The operand at a span, and its value.
use Rattle.std.specs.Prelude.{ℤ, ◌==◌, ◌&&◌, Bool, List, [], ◌∷◌, Option, Some, None, Ok, Err, if◌then◌else◌}
use Rattle.rv_text.specs.declared.lexeme.Span.{Span}
use Rattle.rv_stmt.specs.declared.operand.Operand.{Operand}
use Rattle.rv_fix.specs.Values.{Entry}

abbrev pub is_same_span : Span → Span → Bool
is_same_span a b = a.from == b.from && a.to == b.to

-- the first of the operands that has the span
abbrev pub operand_at : Span → List Operand → Option Operand
operand_at span [] = None
operand_at span (o ∷ os) = if is_same_span o.span span then Some o else operand_at span os

abbrev pub value_in : Entry → Option ℤ
value_in (Ok value) = Some value
value_in (Err fault) = None

-- its value, if it has one
abbrev pub value_at : Span → List Operand → List Entry → Option ℤ
value_at span [] entries = None
value_at span (o ∷ os) [] = None
value_at span (o ∷ os) (e ∷ es) = if is_same_span o.span span then value_in e else value_at span os es
