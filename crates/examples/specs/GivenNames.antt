-- What names give in the examples of values.
use Rattle.std.specs.Prelude.{ℕ, ℤ, pos, Ok}
use Rattle.rv_expr.specs.Value.{Environment}

-- each symbol, each local label and each pair of halves gives a number of its own, and `.` is the address
abbrev pub given : (symbol : ℤ) → (local : ℤ) → (paired_high : ℤ) → (here : ℕ) → Environment
given symbol local paired_high here = record {
  symbol = λ name. Ok symbol;
  local = λ number direction. Ok local;
  here = Ok (pos here);
  paired_high = λ label. Ok paired_high;
}
