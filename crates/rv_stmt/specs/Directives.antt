-- The directives, by their names. (docs/LANGUAGE.md, Directives)
use Rattle.std.specs.Prelude.{ℕ, Bool, List, take, map, Option, Some, codes, if◌then◌else◌}
use Rattle.std.specs.Str.{str_eq_ignore_ascii_case}
use Rattle.rv_ops.specs.Names.{first_named}
use Rattle.rv_stmt.specs.declared.directives.DirectiveForm.{DirectiveForm}
use Rattle.rv_stmt.specs.declared.directives.DirectiveKind.{DirectiveKind}
use Rattle.rv_stmt.specs.declared.directives.DirectiveKind.TheVariants.{Ignored}
use Rattle.rv_stmt.specs.declared.directives.TheConstants.{DIRECTIVES}
use Rattle.rv_stmt.specs.declared.operand_count.OperandCount.{OperandCount}
use Rattle.rv_stmt.specs.declared.operand_count.OperandCount.TheVariants.{AtLeast}

-- a directive with its name
abbrev pub named_directive : List ℕ → OperandCount → DirectiveKind → DirectiveForm × List ℕ
named_directive name count kind = (record { count = count; kind = kind }, name)

-- the directives with their names
unfoldable pub directive_names : List (DirectiveForm × List ℕ)
directive_names = map (λ row. named_directive row.0.now row.1 row.2) DIRECTIVES

-- a name that begins with `.cfi_`: it tells a debugger of the frame of a function
abbrev pub is_frame_directive : List ℕ → Bool
is_frame_directive name = str_eq_ignore_ascii_case (codes ".cfi_") (take 5 name)

-- the directive that has the name, in either letter case
unfoldable pub directive_named : List ℕ → Option DirectiveForm
directive_named name =
    if is_frame_directive name then Some (record { count = AtLeast 0; kind = Ignored })
    else first_named directive_names name
