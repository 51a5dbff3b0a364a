-- A line of a text, and what names give in its expressions.
use Rattle.std.specs.Prelude.{ℕ, pos, Ok}
use Rattle.rv_expr.specs.Value.{Environment}
use Rattle.rv_program.specs.Pairs.{names_at}
use Rattle.rv_program.specs.Program.{program_of}
use Rattle.rv_program.specs.Text.{Text}

pub record LineOfText : Type 0 where
  pub text : Text
  pub line : ℕ

-- what names give on its line
abbrev pub names_of : LineOfText → Environment
names_of l = names_at l.text.base (program_of l.text.lines) l.line

-- the same where `.` is another address: that of the line gives `names_of`
abbrev pub names_from : LineOfText → (here : ℕ) → Environment
names_from l here = record {
  symbol = (names_of l).symbol;
  local = (names_of l).local;
  here = Ok (pos here);
  paired_high = (names_of l).paired_high;
}
