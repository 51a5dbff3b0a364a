-- The lines of a document that are left to take.
use Rattle.std.specs.Prelude.{ℕ, List, [], Option, Some, None}
use Rattle.rv_doc.specs.Positions.{lines_of}

-- those of what is left, where something is
abbrev pub lines_left : Option (List ℕ) → List (List ℕ)
lines_left None = []
lines_left (Some rest) = lines_of rest
