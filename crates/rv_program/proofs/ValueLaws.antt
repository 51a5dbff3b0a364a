-- The values of lines, by their bodies.
use Rattle.std.proofs.Common.{◌≡◌, ℕ, false, if◌then◌else◌, List, ap, sym, ◌∙◌, refl}
use Rattle.std.proofs.lemmas.Bool.{eq-eqb}
use Rattle.rv_stmt.specs.declared.directive.Definition.{Definition}
use Rattle.rv_stmt.specs.declared.directive.Directive.{Directive}
use Rattle.rv_stmt.specs.declared.statement.Body.{Body}
use Rattle.rv_stmt.specs.declared.statement.Body.TheVariants as body
use Rattle.rv_layout.specs.declared.measured.Measured.{Measured}
use Rattle.rv_layout.specs.declared.measured.Measured.TheVariants.{Faulty}
use Rattle.rv_fix.specs.Values.{Entry, operand_values_of}
use Rattle.rv_list.specs.declared.view.DefinitionPlace.{DefinitionPlace}
use Rattle.rv_list.specs.declared.view.DefinitionPlace.TheVariants.{Equ}
use Rattle.rv_program.specs.declared.line_values.LineValues.{LineValues}
use Rattle.rv_program.specs.declared.line_values.LineValues.TheVariants.{Nothing, Operands, Symbol}
use Rattle.rv_program.specs.Codes.{values_of_body, values_by_shape, values_at}
use Rattle.rv_program.specs.Constants.{defined_value}
use Rattle.rv_program.specs.Definitions.{definition_of, is_equ_on}
use Rattle.rv_program.specs.internal.Fits.{Fits}
use Rattle.rv_program.specs.Layout.{shape_at, address_at}
use Rattle.rv_program.specs.Pairs.{names_at}
use Rattle.rv_program.specs.Program.{Program, body_at}
use Rattle.rv_program.specs.References.{references_at}

-- what an `.equ` has by the place of its symbol's definition
by_place : (base : ℕ) → Program → (line : ℕ) → Definition → DefinitionPlace → LineValues
by_place base program line d place = if is_equ_on line place then Symbol (defined_value (references_at base program line) (body.Equ d)) else Nothing

-- an `.equ` that is the definition of its symbol has the symbol's value
pub symbol_of_definition : (base : ℕ) (program : Program) (line : ℕ) (d : Definition) (value : Entry) → definition_of program d.symbol ≡ Equ line → value ≡ defined_value (references_at base program line) (body.Equ d) → Symbol value ≡ values_of_body base program line (body.Equ d)
unfolding by_place
symbol_of_definition base program line d value here is =
    ap Symbol is
    ∙ sym (ap (by_place base program line d) here ∙ ap (λ b. if b then Symbol (defined_value (references_at base program line) (body.Equ d)) else Nothing) (eq-eqb line line refl))

-- and any other has none
pub no_symbol_elsewhere : (base : ℕ) (program : Program) (line : ℕ) (d : Definition) (place : DefinitionPlace) → definition_of program d.symbol ≡ place → is_equ_on line place ≡ false → Nothing ≡ values_of_body base program line (body.Equ d)
unfolding by_place
no_symbol_elsewhere base program line d place here other =
    sym (ap (by_place base program line d) here ∙ ap (λ b. if b then Symbol (defined_value (references_at base program line) (body.Equ d)) else Nothing) other)

-- any line but an alignment and an `.equ` has the values of its operands
pub values_of_operands : (base : ℕ) (program : Program) (line : ℕ) (b : Body) (entries : List Entry) → ((d : Directive) → b ≡ body.Align d → ⊥) → ((d : Definition) → b ≡ body.Equ d → ⊥) → entries ≡ operand_values_of (names_at base program line) (address_at base program line) b → Operands entries ≡ values_of_body base program line b
values_of_operands base program line (body.Align d) entries alignment definition is = absurd (alignment d refl)
values_of_operands base program line (body.Equ d) entries alignment definition is = absurd (definition d refl)
values_of_operands base program line b entries alignment definition is = ap Operands is

-- a place that is no `.equ`
pub no_equ_on : (line : ℕ) (place : DefinitionPlace) → ((equ : ℕ) → place ≡ Equ equ → ⊥) → is_equ_on line place ≡ false
no_equ_on line (Equ equ) other = absurd (other equ refl)
no_equ_on line place other = refl

fits_by_shape : (base : ℕ) (program : Program) (line : ℕ) (shape : Measured) (b : Body) → Fits shape b (values_by_shape shape (values_of_body base program line b))
fits_by_shape base program line (Faulty fault) b = tt
fits_by_shape base program line shape (body.Equ d) = tt
fits_by_shape base program line shape b = tt

-- the values of a line fit it
pub values_fit : (base : ℕ) (program : Program) (line : ℕ) → Fits (shape_at program line) (body_at program line) (values_at base program line)
values_fit base program line = fits_by_shape base program line (shape_at program line) (body_at program line)
