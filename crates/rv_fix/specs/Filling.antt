-- The fields of an instruction with the values of its operands. (docs/LANGUAGE.md, Values of operands)
use Rattle.std.specs.Prelude.{ℤ, pos, unsigned_abs, List, [], ◌∷◌, Option, Some, None, Result, Ok, Err, if◌then◌else◌}
use Rattle.rv_text.specs.declared.faults.Fault.{Fault}
use Rattle.rv_text.specs.declared.faults.FaultNumber.TheVariants as fault
use Rattle.rv_ops.specs.declared.value_limits.LimitFault.{LimitFault}
use Rattle.rv_ops.specs.declared.value_limits.LimitFault.TheVariants.{Range, Multiple}
use Rattle.rv_ops.specs.declared.value_limits.Limits.{Limits}
use Rattle.rv_ops.specs.Limits.{limit_fault}
use Rattle.rv_code.specs.declared.instruction.Fields.{Fields}
use Rattle.rv_stmt.specs.declared.operand.Operand.{Operand}
use Rattle.rv_stmt.specs.declared.operand.Role.{Role}
use Rattle.rv_stmt.specs.declared.operand.Role.TheVariants.{Immediate, SourceImmediate, Target, PairTarget, Constant}
use Rattle.rv_stmt.specs.Draft.{fields}
use Rattle.rv_stmt.specs.Readings.{Reading, and_then}
use Rattle.rv_layout.specs.Shapes.{is_loadable, with_value}
use Rattle.rv_fix.specs.Reports.{ranged, made_of}
use Rattle.rv_fix.specs.Values.{Entry}

-- a value, unless this is wrong with it
abbrev pub unless_fault : Option LimitFault → ℤ → Reading ℤ
unless_fault None v = Ok v
unless_fault (Some Range) v = Err fault.Range
unless_fault (Some Multiple) v = Err fault.Multiple

-- a value within the limits of an operation: first its range, and then of what it is a multiple
abbrev pub limited : Limits → ℤ → Reading ℤ
limited l v = unless_fault (limit_fault l v) v

abbrev pub with_source : ℤ → Fields → Fields
with_source v f = fields f.rd (unsigned_abs v) f.rs2 f.value

-- The fields with the value of an operand in its role, or why the operation does not take it. The displacement of an
-- address pair and the constant of a constant load are whole here: they are parted when the line is expanded.
abbrev pub with_number : Limits → Role → ℤ → Fields → Reading Fields
with_number l Immediate v f = and_then (limited l v) (λ v. Ok (with_value v f))
with_number l Target v f = and_then (limited l v) (λ v. Ok (with_value v f))
with_number l SourceImmediate v f = and_then (ranged (pos 0) (pos 31) v) (λ v. Ok (with_source v f))
with_number l PairTarget v f = Ok (with_value v f)
with_number l Constant v f = if is_loadable v then Ok (with_value v f) else Err fault.Range
with_number l role v f = Ok f

-- the fields with the values of all operands, or the first fault from the left
abbrev pub filled : Limits → List Operand → List Entry → Fields → Result Fields Fault
filled l [] es f = Ok f
filled l (o ∷ os) [] f = Ok f
filled l (o ∷ os) (e ∷ es) f =
    and_then (made_of o e (λ v. with_number l o.role v f)) (λ f. filled l os es f)
