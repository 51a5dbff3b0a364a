-- Rows in which a value is put, in the place of another one or behind the last one.
use Rattle.std.specs.Prelude.{ℕ, zero, suc, List, [], ◌∷◌}

-- a row with another value at a place, or with one more behind its end
abbrev pub set_or_push : {A : Type 0} → List A → (place : ℕ) → A → List A
set_or_push [] place a = a ∷ []
set_or_push (x ∷ xs) zero a = a ∷ xs
set_or_push (x ∷ xs) (suc place) a = x ∷ set_or_push xs place a
