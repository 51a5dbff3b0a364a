-- How often each kind of work was counted.
use Rattle.std.specs.Prelude.{ℕ}

-- lines read, expressions computed and lines encoded
pub record Counts : Type 0 where
  pub parsed : ℕ
  pub valued : ℕ
  pub encoded : ℕ
