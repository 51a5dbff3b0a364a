-- The values of a line's operands. (docs/LANGUAGE.md, Values of operands)
use Rattle.std.specs.Prelude.{ℕ, ℤ, pos, ◌^◌, List, map, Option, Some, None, Result, Ok, Err, if◌then◌else◌}
use Rattle.rv_expr.specs.declared.faults.ValueFault.{ValueFault}
use Rattle.rv_expr.specs.declared.faults.ValueFault.TheVariants.{NotConstant}
use Rattle.rv_expr.specs.Value.{Environment, value_of}
use Rattle.rv_stmt.specs.declared.operand.Operand.{Operand}
use Rattle.rv_stmt.specs.declared.operand.OperandValue.{OperandValue}
use Rattle.rv_stmt.specs.declared.operand.OperandValue.TheVariants.{Plain, High, Low, PcrelHigh, PcrelLow}
use Rattle.rv_stmt.specs.declared.operand.Role.{Role}
use Rattle.rv_stmt.specs.declared.operand.Role.TheVariants.{Target, PairTarget, Alignment}
use Rattle.rv_stmt.specs.declared.statement.Body.{Body}
use Rattle.rv_stmt.specs.Readings.{and_then}
use Rattle.rv_stmt.specs.Statement.{operands_of}
use Rattle.rv_stmt.specs.ValueParts.{high_part, low_part}
use Rattle.rv_layout.specs.Rounding.{padding}
use Rattle.rv_layout.specs.Shapes.{alignment_exponent, is_size}
use Rattle.rv_fix.specs.Displacements.{displacement}

-- the value of an operand, or why it has none
abbrev pub Entry : Type 0
Entry = Result ℤ ValueFault

-- where a constant has to stand, neither `.` nor a local label is one
abbrev pub for_constants : Environment → Environment
for_constants given = record {
  symbol = given.symbol;
  local = λ number direction. Err NotConstant;
  here = Err NotConstant;
  paired_high = given.paired_high;
}

-- what names give in this role: an operand that the size of its line follows from has to be a constant
abbrev pub given_to : Role → Environment → Environment
given_to role given = if is_size role then for_constants given else given

-- the value of an expression, or the part of it that a modifier takes, on a line with the address `here`
abbrev pub operand_value : Environment → (here : ℕ) → OperandValue → Entry
operand_value given here (Plain e) = value_of given e
operand_value given here (High e) = and_then (value_of given e) (λ v. Ok (high_part v))
operand_value given here (Low e) = and_then (value_of given e) (λ v. Ok (low_part v))
operand_value given here (PcrelHigh e) = and_then (value_of given e) (λ v. Ok (high_part (displacement here v)))
operand_value given here (PcrelLow label) = and_then (given.paired_high label) (λ v. Ok (low_part v))

-- how many bytes reach the next address with this alignment; 0 where a number is no alignment
abbrev pub bytes_to_alignment : (here : ℕ) → (exponent : Option ℕ) → ℕ
bytes_to_alignment here None = 0
bytes_to_alignment here (Some e) = padding here (2 ^ e)

-- what a value is counted as: an address from that of the line, and an alignment in the bytes that reach it
abbrev pub counted_from : (here : ℕ) → Role → ℤ → ℤ
counted_from here Target v = displacement here v
counted_from here PairTarget v = displacement here v
counted_from here (Alignment u) v = pos (bytes_to_alignment here (alignment_exponent u v))
counted_from here role v = v

abbrev pub entry_of : Environment → (here : ℕ) → Operand → Entry
entry_of given here o =
    and_then (operand_value (given_to o.role given) here o.value) (λ v. Ok (counted_from here o.role v))

-- an entry for each operand, from left to right, on a line with the address `here`
abbrev pub operand_values_of : Environment → (here : ℕ) → Body → List Entry
operand_values_of given here body = map (entry_of given here) (operands_of body)
