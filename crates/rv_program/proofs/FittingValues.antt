-- The values of lines fit them.
use Rattle.std.proofs.Common.{◌≡◌, [], refl}
use Rattle.rv_stmt.specs.declared.statement.Body.{Body}
use Rattle.rv_stmt.specs.declared.statement.Body.TheVariants as body
use Rattle.rv_stmt.specs.declared.directive.Definition.{Definition}
use Rattle.rv_stmt.specs.declared.operand.Operand.{Operand}
use Rattle.std.specs.Prelude.{List, ◌∷◌}
use Rattle.rv_fix.specs.Code.{code, code_of_definition, code_of_body}
use Rattle.rv_fix.specs.Values.{Entry}
use Rattle.rv_program.specs.declared.line_values.LineValues.TheVariants.{Nothing, Symbol}
use Rattle.rv_program.specs.internal.Fits.{FitsBody}

no_entries : (os : List Operand) → code_of_definition os [] ≡ code []
no_entries [] = refl
no_entries (o ∷ os) = refl

-- a body that has no values has no code
pub no_code_without_values : (b : Body) → FitsBody b Nothing → code_of_body b [] ≡ code []
no_code_without_values (body.Equ d) h = no_entries d.operands
no_code_without_values b h = absurd h

-- only an `.equ` has the value of a symbol
pub only_definitions : (b : Body) (entry : Entry) → FitsBody b (Symbol entry) → ((d : Definition) → b ≡ body.Equ d → ⊥) → ⊥
only_definitions (body.Equ d) entry h other = other d refl
only_definitions b entry h other = h
