-- What the refusals to assemble a line by itself say of it.
use Rattle.std.specs.Prelude.{◌≡◌, ℕ, List, true, false, ⊤}
use Rattle.rv_stmt.specs.declared.statement.Body.{Body}
use Rattle.rv_stmt.specs.Statement.{statement_of}
use Rattle.rv_fix.specs.declared.error.AssembleError.{AssembleError}
use Rattle.rv_fix.specs.declared.error.AssembleError.TheVariants.{Names, Memory}
use Rattle.rv_fix.specs.Alone.{uses_names}

abbrev pub refusal_number : AssembleError → ℕ
refusal_number Names = 1
refusal_number Memory = 2

-- A body that uses names is refused for that alone, even where there is no memory.
abbrev pub RefusesBody : AssembleError → Body → Type 0
RefusesBody Names body = uses_names body ≡ true
RefusesBody Memory body = uses_names body ≡ false

-- a line uses names; nothing is said of it where memory ran out, since it may not have been read
abbrev pub Refuses : AssembleError → List ℕ → Type 0
Refuses Names line = uses_names (statement_of line).body ≡ true
Refuses Memory line = ⊤
