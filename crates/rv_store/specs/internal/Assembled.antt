-- What may be counted while an edit is made whose line was read, after the shape of that line.
use Rattle.std.specs.Prelude.{◌≡◌, ℕ, ◌+◌, ◌*◌, ◌≤◌, List, length}
use Rattle.rv_text.specs.Counting.{Counts}
use Rattle.rv_program.specs.Changes.{most_values, most_codes}
use Rattle.rv_program.specs.internal.NewShapes.{shape_operands}
use Rattle.rv_program.specs.Text.{Edit, lines_after}

-- no more is counted than this edit may take
pub record AreCountedAfter (base : ℕ) (lines : List (List ℕ)) (edit : Edit) (old new : Counts) : Type 0 where
  pub parsed : new.parsed ≡ old.parsed
  pub valued_least : old.valued ≤ new.valued
  pub valued_few : new.valued ≤ old.valued + 1004 * length (lines_after lines edit)
  pub valued_most : new.valued + shape_operands edit ≤ old.valued + most_values base lines edit
  pub encoded_least : old.encoded ≤ new.encoded
  pub encoded_few : new.encoded ≤ old.encoded + length (lines_after lines edit)
  pub encoded_most : new.encoded ≤ old.encoded + most_codes base lines edit
