-- Lines whose number of bytes is limited.
use Rattle.std.specs.Prelude.{Bool, true, false}
use Rattle.rv_stmt.specs.declared.statement.Body.{Body}
use Rattle.rv_stmt.specs.declared.statement.Body.TheVariants as body

-- an alignment, whose bytes depend on its place
abbrev pub is_alignment : Body → Bool
is_alignment (body.Align d) = true
is_alignment b = false
