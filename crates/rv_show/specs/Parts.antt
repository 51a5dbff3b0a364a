-- Parts of a line.
use Rattle.std.specs.Prelude.{ℕ, ◌-◌, List, take, drop}
use Rattle.rv_text.specs.declared.lexeme.Span.{Span}

-- the bytes of a line that a span covers
abbrev pub part : List ℕ → Span → List ℕ
part line span = take (span.to - span.from) (drop span.from line)
