-- How much is computed on the lines that an edit invalidates.
use Rattle.std.specs.Prelude.{ℕ, zero, suc, ◌+◌, List, length, Option, Some, None}
use Rattle.std.specs.List.{sum_by}
use Rattle.rv_expr.specs.Tree.{Tree, Local}
use Rattle.rv_stmt.specs.declared.statement.Body.{Body}
use Rattle.rv_stmt.specs.declared.statement.Body.TheVariants.{Equ}
use Rattle.rv_stmt.specs.Statement.{operands_of}
use Rattle.rv_layout.specs.Shapes.{size_operands}
use Rattle.rv_program.specs.Changes.{program_after, is_invalidated}
use Rattle.rv_program.specs.Jumps.{target_of}
use Rattle.rv_program.specs.Pairs.{pcrel_high_of}
use Rattle.rv_program.specs.Program.{Program, body_at, lines_that}
use Rattle.rv_program.specs.Text.{Edit}

-- Operands of a line, by what they are computed for

-- the value of the symbol of an `.equ`
abbrev pub equ_operands : Body → ℕ
equ_operands (Equ d) = length d.operands
equ_operands body = 0

-- the shape of a line, or the constant of an `.equ`
abbrev pub constant_operands : Body → ℕ
constant_operands body = size_operands body + equ_operands body

abbrev pub one_if_some : Option Tree → ℕ
one_if_some None = 0
one_if_some (Some e) = 1

-- the high half that `%pcrel_lo` takes
abbrev pub high_operands : Body → ℕ
high_operands body = one_if_some (pcrel_high_of body)

-- the distance by which a jump to a local label is compared, before and after an edit
abbrev pub one_if_local : Option Tree → ℕ
one_if_local (Some (Local number direction)) = 1
one_if_local target = 0

abbrev pub compared_operands : Body → ℕ
compared_operands body = one_if_local (target_of body)

-- the values from which the code of a line is made; an `.equ` has its value already
abbrev pub value_operands : Body → ℕ
value_operands (Equ d) = 0
value_operands body = length (operands_of body)

-- all that is computed before the values: for the shapes and the constants, the high halves, and the values of the `.equ`s
abbrev pub survey_operands : Body → ℕ
survey_operands body = constant_operands body + high_operands body + equ_operands body

-- Lines

-- those operands of the first n lines
abbrev pub operands_through : (operands : Body → ℕ) → Program → (n : ℕ) → ℕ
operands_through operands program zero = 0
operands_through operands program (suc n) = operands_through operands program n + operands (body_at program (suc n))

-- those of the first n lines that an edit invalidates
abbrev pub work : (operands : Body → ℕ) → (base : ℕ) → (lines : List (List ℕ)) → Edit → (n : ℕ) → ℕ
work operands base lines edit n =
    sum_by (λ k. operands (body_at (program_after lines edit) k)) (lines_that (is_invalidated base lines edit) n)
