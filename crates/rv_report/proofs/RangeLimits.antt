-- The values that messages name are those by which Range is found.
use Rattle.std.specs.Prelude.{◌≡◌, ℤ, Ok, Err, Some, None, unsigned_abs, refl, if◌then◌else◌}
use Rattle.rv_text.specs.declared.faults.FaultNumber.TheVariants.{Range}
use Rattle.rv_code.specs.declared.instruction.Fields.{Fields}
use Rattle.rv_ops.specs.declared.value_limits.Limits.{Limits}
use Rattle.rv_stmt.specs.declared.operand.DataWidth.{DataWidth}
use Rattle.rv_stmt.specs.declared.operand.DataWidth.TheVariants.{Byte, Half, Word}
use Rattle.rv_stmt.specs.declared.operand.Role.TheVariants.{Data, SourceImmediate, Constant, Size}
use Rattle.rv_stmt.specs.declared.statement.Body.{Body}
use Rattle.rv_stmt.specs.Readings.{and_then}
use Rattle.rv_layout.specs.Shapes.{fill_size, is_loadable}
use Rattle.rv_fix.specs.Data.{in_width}
use Rattle.rv_fix.specs.Filling.{with_number, with_source}
use Rattle.rv_report.specs.Bounds.{is_within, limits_in}

pub widths : (body : Body) (width : DataWidth) (value : ℤ) → in_width (Data width) value ≡ (if is_within (limits_in body (Data width)) value then Ok value else Err Range)
widths body Byte value = refl
widths body Half value = refl
widths body Word value = refl

pub source : (body : Body) (limits : Limits) (value : ℤ) (fields : Fields) → with_number limits SourceImmediate value fields ≡ and_then (if is_within (limits_in body SourceImmediate) value then Ok value else Err Range) (λ v. Ok (with_source v fields))
source body limits value fields = refl

pub constant : (body : Body) (value : ℤ) → is_loadable value ≡ is_within (limits_in body Constant) value
constant body value = refl

pub size : (body : Body) (value : ℤ) → fill_size value ≡ (if is_within (limits_in body Size) value then Some (unsigned_abs value) else None)
size body value = refl
