-- The names that statements begin with, in the order of their tables.
use Rattle.std.specs.Prelude.{ℕ, List, ◌++◌, map, is_none, if◌then◌else◌}
use Rattle.std.specs.List.{filter}
use Rattle.rv_ops.specs.declared.table.TheConstants.{TABLE}
use Rattle.rv_ops.specs.Table.{operation_named}
use Rattle.rv_stmt.specs.declared.directives.TheConstants.{DIRECTIVES}
use Rattle.rv_stmt.specs.declared.forms.TheConstants.{FORMS}
use Rattle.rv_stmt.specs.Statement.{is_directive_name}

-- the names of no operation
abbrev pub without_operations : List (List ℕ) → List (List ℕ)
without_operations names = filter (λ name. is_none (operation_named name)) names

-- the operations and the pseudo-instructions, each once
unfoldable pub mnemonics : List (List ℕ)
mnemonics = map (λ row. row.1.now) TABLE ++ without_operations (map (λ row. row.0.now) FORMS)

unfoldable pub directives : List (List ℕ)
directives = map (λ row. row.0.now) DIRECTIVES

-- the directives for a name that begins with `.`, and the mnemonics for any other
abbrev pub names_like : List ℕ → List (List ℕ)
names_like name = if is_directive_name name then directives else mnemonics
