-- What is wrong with a value, reported at its operand. (docs/LANGUAGE.md, Values of operands)
use Rattle.std.specs.Prelude.{ℤ, ◌&&◌, int_le, Result, Ok, Err, if◌then◌else◌}
use Rattle.rv_text.specs.declared.faults.Fault.{Fault}
use Rattle.rv_text.specs.declared.faults.FaultNumber.TheVariants.{Range}
use Rattle.rv_text.specs.declared.lexeme.Span.{Span}
use Rattle.rv_stmt.specs.declared.operand.Operand.{Operand}
use Rattle.rv_stmt.specs.Readings.{Reading, and_then}
use Rattle.rv_layout.specs.Shapes.{value_at}
use Rattle.rv_fix.specs.Values.{Entry}

-- a value from the least to the greatest
abbrev pub ranged : (least greatest : ℤ) → ℤ → Reading ℤ
ranged least greatest v = if int_le least v && int_le v greatest then Ok v else Err Range

-- a fault is one of the line, at a span
abbrev pub at_span : {A : Type 0} → Span → Reading A → Result A Fault
at_span span (Ok x) = Ok x
at_span span (Err number) = Err (record { number = number; span = span })

-- what is made of an operand's value: its own fault counts first
abbrev pub made_of : {A : Type 0} → Operand → Entry → (ℤ → Reading A) → Result A Fault
made_of o e f = and_then (value_at o.span e) (λ v. at_span o.span (f v))
