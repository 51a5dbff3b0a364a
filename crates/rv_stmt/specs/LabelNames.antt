-- Labels, apart from where their names lie in memory.
use Rattle.std.specs.Prelude.{ℕ, List}
use Rattle.rv_text.specs.declared.lexeme.Span.{Span}

-- what a label defines: a symbol, or a local label, by its number
pub data LabelName : Type 0 where
  Symbol : (name : List ℕ) → LabelName
  Local : (number : ℕ) → LabelName

-- a label; the span is that of its name, without the `:`
pub record Label : Type 0 where
  pub name : LabelName
  pub span : Span
