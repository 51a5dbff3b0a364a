-- Where lines begin and end in a text.
use Rattle.std.specs.Prelude.{◌≡◌, ◌⊎◌, ℕ, List, [], ◌∷◌, ◌++◌, take, drop}

-- a line begins at this place
abbrev pub IsLineStart : (text : List ℕ) → (at : ℕ) → Type 0
IsLineStart text at = (at ≡ 0) ⊎ ((before : List ℕ) × (take at text ≡ before ++ 10 ∷ []))

-- a line ends at this place
abbrev pub IsLineEnd : (text : List ℕ) → (at : ℕ) → Type 0
IsLineEnd text at = (drop at text ≡ []) ⊎ ((after : List ℕ) × (drop at text ≡ 10 ∷ after))
