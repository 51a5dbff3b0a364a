-- What a whole text, assembled at once, adds to the counts of lines read, values computed and lines encoded.
use Rattle.std.specs.Prelude.{◌≡◌, ℕ, ◌+◌, ◌*◌, ◌≤◌, List, length}
use Rattle.std.specs.List.{sum_by}
use Rattle.rv_text.specs.Counting.{Counts}
use Rattle.rv_stmt.specs.Statement.{operands_of}
use Rattle.rv_program.specs.Program.{Program, program_of}

-- the most values that may be computed: each operand of a line once as a constant and once as a value
abbrev pub most_values_in : Program → ℕ
most_values_in program = 2 * sum_by (λ s. length (operands_of s.body)) program

-- no line is read, and no more is counted than the text may take
pub record IsCountedWhole (lines : List (List ℕ)) (old new : Counts) : Type 0 where
  pub parsed : new.parsed ≡ old.parsed
  pub valued_least : old.valued ≤ new.valued
  pub valued_most : new.valued ≤ old.valued + most_values_in (program_of lines)
  pub encoded_least : old.encoded ≤ new.encoded
  pub encoded_most : new.encoded ≤ old.encoded + length lines
