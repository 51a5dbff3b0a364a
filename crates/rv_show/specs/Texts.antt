-- Texts of messages and their parts.
use Rattle.std.specs.Prelude.{ℕ, zero, suc, List, [], ◌∷◌, ◌++◌, length, codes}
use Rattle.rv_show.specs.Characters.{excerpt, excerpt_from}

-- a part of a line in quotation marks
unfoldable pub quoted : List ℕ → List ℕ
quoted text = codes "'" ++ (excerpt text ++ codes "'")

-- the same from a place on
unfoldable pub quoted_from : (place : ℕ) → List ℕ → List ℕ
quoted_from place text = codes "'" ++ (excerpt_from place text ++ codes "'")

-- a message about a part of a line
unfoldable pub about : (before text after : List ℕ) → List ℕ
about before text after = before ++ (quoted text ++ after)

-- what stands before so many more of several alternatives
abbrev pub separator : (comma or : List ℕ) → (left : ℕ) → List ℕ
separator comma or zero = []
separator comma or (suc zero) = or
separator comma or (suc (suc n)) = comma

-- alternatives from a place on, with one sign between the last two and another between the others
abbrev pub alternatives : (comma or : List ℕ) → (place : ℕ) → List (List ℕ) → List ℕ
alternatives comma or place [] = []
alternatives comma or place (t ∷ ts) = excerpt_from place t ++ (separator comma or (length ts) ++ alternatives comma or place ts)
