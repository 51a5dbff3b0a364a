-- Lines that have been read.
use Rattle.std.specs.Prelude.{◌≡◌, ℕ, true, List}
use Rattle.rv_stmt.specs.declared.statement.Stmt.{Stmt}
use Rattle.rv_stmt.specs.Statement.{statement_of}
use Rattle.rv_program.specs.declared.brief.Brief.{Brief}
use Rattle.rv_program.specs.internal.Briefs.{brief_of}
use Rattle.rv_program.specs.Text.{is_line}

-- the bytes of a line, its statement, and that in brief
pub record IsRead (text : List ℕ) (stmt : Stmt) (brief : Brief) : Type 0 where
  pub line : is_line text ≡ true
  pub read : stmt ≡ statement_of text
  pub summed : brief ≡ brief_of stmt
