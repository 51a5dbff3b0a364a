-- Which changes of a line take its fault away. (docs/EDITORS.md, Quick fixes)
use Rattle.std.specs.Prelude.{ℕ, ◌-◌, ◌&&◌, nat_le, max, not, Bool, true, false, Option, None, Some, List, ◌++◌, length, take, drop}
use Rattle.std.specs.List.{list_all}
use Rattle.std.specs.Option.{is_some}
use Rattle.rv_text.specs.declared.faults.Fault.{Fault}
use Rattle.rv_text.specs.declared.lexeme.Span.{Span}
use Rattle.rv_ops.specs.Registers.{register_named}
use Rattle.rv_stmt.specs.declared.statement.Body.{Body}
use Rattle.rv_stmt.specs.declared.statement.Body.TheVariants as body
use Rattle.rv_list.specs.Faults.{faults_of}
use Rattle.rv_list.specs.Shown.{Shown, ShownLine}
use Rattle.rv_show.specs.Parts.{part}

-- a line with a text in the place of one of its spans
abbrev pub changed : (line : List ℕ) → Span → (text : List ℕ) → List ℕ
changed line span text = take span.from line ++ (text ++ drop span.to line)

-- how many bytes of a line stand after a change and the fault that it is for
abbrev pub count_after : (line : List ℕ) → (fault span : Span) → ℕ
count_after line fault span = length line - max fault.to span.to

-- A fault of a line may stay: it begins at a place or after it, and is not that a register stands there.
abbrev pub may_stay : (line : List ℕ) → (at : ℕ) → Option Fault → Bool
may_stay line at None = true
may_stay line at (Some fault) = nat_le at fault.span.from && not (is_some (register_named (part line fault.span)))

abbrev pub is_statement : Body → Bool
is_statement (body.Faulty fault) = false
is_statement other = true

-- a line of a text, by its number, has no fault of its statement, and no other one that may not stay
abbrev pub is_right_line : Shown → (number at : ℕ) → ShownLine → Bool
is_right_line shown number at line =
    is_statement line.stmt.body && list_all (λ fault. may_stay line.text at (Some fault)) (faults_of shown number line)
