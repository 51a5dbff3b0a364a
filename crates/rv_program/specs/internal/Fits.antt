-- Which values a line can have, by its shape and its body.
use Rattle.rv_stmt.specs.declared.statement.Body.{Body}
use Rattle.rv_stmt.specs.declared.statement.Body.TheVariants as body
use Rattle.rv_layout.specs.declared.measured.Measured.{Measured}
use Rattle.rv_layout.specs.declared.measured.Measured.TheVariants.{Faulty}
use Rattle.rv_program.specs.declared.line_values.LineValues.{LineValues}
use Rattle.rv_program.specs.declared.line_values.LineValues.TheVariants.{Nothing, Symbol}

-- where the shape is no fault, only an `.equ` has no values or that of a symbol
abbrev pub FitsBody : Body → LineValues → Type 0
FitsBody (body.Equ d) values = Unit {0}
FitsBody b Nothing = ⊥
FitsBody b (Symbol entry) = ⊥
FitsBody b values = Unit {0}

-- where it is a fault, the values do not count
abbrev pub Fits : Measured → Body → LineValues → Type 0
Fits (Faulty fault) b values = Unit {0}
Fits shape b values = FitsBody b values
