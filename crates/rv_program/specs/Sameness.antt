-- When two shapes, values or codes of lines are the same. On an enum or a struct of the code this is its derived `==`.
use Rattle.std.specs.Prelude.{ℤ, Bool, true, false, ◌&&◌, ◌==◌, bytes_eq, Option}
use Rattle.std.specs.Bool.{beq}
use Rattle.std.specs.Cmp.Lexicographic.{pointwise}
use Rattle.std.specs.Ordering.{int_eq}
use Rattle.std.specs.Option.{option_eq}
use Rattle.std.specs.Result.{result_eq}
use Rattle.rv_text.specs.contracts.faults.FaultPartialEq.TheImpl.{ghosts as faults}
use Rattle.rv_expr.specs.contracts.faults.ValueFaultPartialEq.TheImpl.{ghosts as value_faults}
use Rattle.rv_stmt.specs.declared.section.Sect.{Sect}
use Rattle.rv_stmt.specs.contracts.section.SectPartialEq.TheImpl.{ghosts as sections}
use Rattle.rv_layout.specs.declared.measured.Measured.{Measured}
use Rattle.rv_layout.specs.contracts.measured.MeasuredPartialEq.TheImpl.{ghosts as shapes}
use Rattle.rv_fix.specs.declared.coded.Coded.{Coded}
use Rattle.rv_fix.specs.Values.{Entry}
use Rattle.rv_program.specs.declared.line_values.LineValues.{LineValues}
use Rattle.rv_program.specs.declared.line_values.LineValues.TheVariants.{Nothing, Operands, Symbol, Padding}

abbrev pub same_section : Sect → Sect → Bool
same_section = sections.eq

abbrev pub same_shape : Measured → Measured → Bool
same_shape = shapes.eq

abbrev pub same_constant : Option ℤ → Option ℤ → Bool
same_constant = option_eq int_eq

-- the same value, or the same fault in its place
abbrev pub same_entry : Entry → Entry → Bool
same_entry = result_eq int_eq value_faults.eq

abbrev pub same_values : LineValues → LineValues → Bool
same_values Nothing Nothing = true
same_values (Operands xs) (Operands ys) = pointwise same_entry xs ys
same_values (Symbol x) (Symbol y) = same_entry x y
same_values (Padding in_code m) (Padding in_code' n) = beq in_code in_code' && m == n
same_values x y = false

-- the same bytes, and the same fault or none
abbrev pub same_code : Coded → Coded → Bool
same_code c d = bytes_eq c.payload d.payload && option_eq faults.eq c.fault d.fault
