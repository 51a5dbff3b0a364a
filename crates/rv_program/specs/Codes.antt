-- The values and the code of each line of a text. (docs/LANGUAGE.md, Values of operands; Padding)
use Rattle.std.specs.Prelude.{ℕ, [], ◌∷◌, if◌then◌else◌}
use Rattle.rv_stmt.specs.declared.statement.Body.{Body}
use Rattle.rv_stmt.specs.declared.statement.Body.TheVariants as body
use Rattle.rv_layout.specs.declared.measured.Measured.{Measured}
use Rattle.rv_layout.specs.declared.measured.Measured.TheVariants.{Faulty}
use Rattle.rv_layout.specs.Sections.{is_code}
use Rattle.rv_fix.specs.declared.coded.Coded.{Coded}
use Rattle.rv_fix.specs.Code.{code, code_of}
use Rattle.rv_fix.specs.Padding.{padding}
use Rattle.rv_fix.specs.Values.{operand_values_of}
use Rattle.rv_program.specs.declared.line_values.LineValues.{LineValues}
use Rattle.rv_program.specs.declared.line_values.LineValues.TheVariants.{Nothing, Operands, Symbol, Padding}
use Rattle.rv_program.specs.Constants.{defined_value}
use Rattle.rv_program.specs.Definitions.{definition_of, is_equ_on}
use Rattle.rv_program.specs.Layout.{shape_at, section_at, address_at, size_at}
use Rattle.rv_program.specs.Pairs.{names_at}
use Rattle.rv_program.specs.Program.{Program, body_at}
use Rattle.rv_program.specs.References.{references_at}

-- the values of a line with this body, where its shape is no fault: an alignment has its padding, by instructions in the
-- sections of code, and an `.equ` that is not
-- the definition of its symbol has none
abbrev pub values_of_body : (base : ℕ) → Program → (i : ℕ) → Body → LineValues
values_of_body base program i (body.Align d) = Padding (is_code (section_at program i)) (size_at program i)
values_of_body base program i (body.Equ d) =
    if is_equ_on i (definition_of program d.symbol)
    then Symbol (defined_value (references_at base program i) (body.Equ d))
    else Nothing
values_of_body base program i b = Operands (operand_values_of (names_at base program i) (address_at base program i) b)

-- a line whose shape is a fault has none
abbrev pub values_by_shape : Measured → LineValues → LineValues
values_by_shape (Faulty fault) values = Nothing
values_by_shape shape values = values

abbrev pub values_at : (base : ℕ) → Program → (i : ℕ) → LineValues
values_at base program i = values_by_shape (shape_at program i) (values_of_body base program i (body_at program i))

-- the code of a line with these values
abbrev pub code_by_values : Measured → Body → LineValues → Coded
code_by_values shape b Nothing = code_of shape b []
code_by_values shape b (Operands entries) = code_of shape b entries
code_by_values shape b (Symbol entry) = code_of shape b (entry ∷ [])
code_by_values shape b (Padding in_code count) = code (padding in_code count)

abbrev pub code_at : (base : ℕ) → Program → (i : ℕ) → Coded
code_at base program i = code_by_values (shape_at program i) (body_at program i) (values_at base program i)
