-- What is wrong with an operand, of an instruction or another statement. (docs/LANGUAGE.md, Faults of statements)
use Rattle.std.specs.Prelude.{Result, Ok, Err, if◌then◌else◌}
use Rattle.rv_text.specs.declared.faults.Fault.{Fault}
use Rattle.rv_text.specs.declared.faults.FaultNumber.TheVariants.{TooDeep}
use Rattle.rv_text.specs.declared.lexeme.Span.{Span}
use Rattle.rv_stmt.specs.declared.runs.Run.{Run}
use Rattle.rv_stmt.specs.Readings.{Reading}
use Rattle.rv_stmt.specs.Values.{is_deep}

-- a fault is reported at a span
abbrev pub reported_at : {A : Type 0} → Span → Reading A → Result A Fault
reported_at span (Ok x) = Ok x
reported_at span (Err number) = Err (record { number = number; span = span })

-- what a run is read as: more than 64 open parentheses at one place are a fault whatever else the run is
abbrev pub operand_of_run : {A : Type 0} → Run → Reading A → Result A Fault
operand_of_run r reading = reported_at r.span (if is_deep r.tokens then Err TooDeep else reading)
