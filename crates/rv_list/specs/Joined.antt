-- Lists one after another.
use Rattle.std.specs.Prelude.{ℕ, zero, suc, List, [], ◌++◌}

-- what 0, 1 and so on give, as many as are asked for
abbrev pub joined : {A : Type 0} → (ℕ → List A) → (n : ℕ) → List A
joined f zero = []
joined f (suc n) = joined f n ++ f n
